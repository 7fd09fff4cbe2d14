-- A step changes the credit of one cell at most, and the claims of its own view.
-- Used in Keep, Opening and Steps.
use Rattle.std.proofs.Common.{◌≡◌, ◌≢◌, ℕ, suc, ◌+◌, ◌<◌, List, length, get_or, set, sym, ap, ◌∙◌}
use Rattle.std.proofs.Common.{arith, inl, inr, get_or-set_other, get_or-set_same}
use Rattle.std.proofs.lemmas.Bool.{cases_eq}
use Rattle.ol_law_edges.specs.Edges.{IsIn}
use Rattle.ol_wire.specs.declared.layout.Parts.{Parts}
use Rattle.ol_wire.specs.declared.view.View.{View}
use Rattle.ol_wire.specs.Layout.{left, right, part_of_word, left_word, cells_of}
use Rattle.ol_wire.specs.Plays.{cell_at}
use Rattle.ol_wire.specs.Credit.{active_in, active_at, active_cells, active_claims}
use Rattle.ol_wire.proofs.InWords.Places.{part_cell, cell_of_left, is_left}
use Rattle.ol_wire.proofs.Closing.Cells.{cell_word}
use Rattle.ol_wire.proofs.Credit.Sums.{sum_same, sum_but, total_among, active_empty}

module _ (z : Parts) (ws : List ℕ) (i x : ℕ) where
  abbrev new : List ℕ
  new = set ws i x

  other_word : (u : ℕ) → u ≢ i → get_or new u 0 ≡ get_or ws u 0
  other_word u d = get_or-set_other ws i u x 0 d

  same_at : (w : ℕ) → w ≢ i → suc w ≢ i → active_at new w ≡ active_at ws w
  same_at w d e = ap (λ a. active_in a (get_or new (suc w) 0)) (other_word w d)
      ∙ ap (active_in (get_or ws w 0)) (other_word (suc w) e)

  -- a word that is neither the left nor the right one of a cell
  pub cells_off : part_of_word z i ≢ left → part_of_word z i ≢ right → active_cells z new ≡ active_cells z ws
  cells_off not_left not_right = sum_same (cells_of z) (λ c. active_at new (left_word z c))
      (λ c. active_at ws (left_word z c)) same
    where
      same : (c : ℕ) → c < cells_of z → active_at new (left_word z c) ≡ active_at ws (left_word z c)
      same c lt =
          let h = part_cell z c lt in
          same_at (left_word z c) (λ e. not_left (ap (part_of_word z) (sym e) ∙ h.0))
          (λ e. not_right (ap (part_of_word z) (sym e) ∙ h.1))

  -- the left word of a cell
  pub cells_left : part_of_word z i ≡ left → i < length ws →
      active_cells z new + active_at ws i ≡ active_cells z ws + active_in x (get_or ws (suc i) 0)
  cells_left is wide =
      let t = cell_word z i is in
      let sums = sum_but (cells_of z) t.0 (λ c. active_at new (left_word z c))
      (λ c. active_at ws (left_word z c)) t.1 (others t.0 t.1 t.2) in
      omega (arith, sums, ap (active_at ws) t.2, ap (active_at new) t.2, now)
    where
      now : active_at new i ≡ active_in x (get_or ws (suc i) 0)
      now = ap (λ a. active_in a (get_or new (suc i) 0)) (get_or-set_same ws i x 0 wide)
          ∙ ap (active_in x) (other_word (suc i) (λ e. omega (arith, e)))

      others : (j : ℕ) → j < cells_of z → left_word z j ≡ i → (c : ℕ) → c < cells_of z → c ≢ j →
          active_at new (left_word z c) ≡ active_at ws (left_word z c)
      others j low at c lt d =
          let h = part_cell z c lt in
          same_at (left_word z c)
          (λ e. d (sym (cell_of_left z c lt) ∙ ap (cell_at z) (e ∙ sym at) ∙ cell_of_left z j low))
          (λ e. let bad : right ≡ left = sym h.1 ∙ ap (part_of_word z) e ∙ is in absurd (cc))

  -- the right word of a cell whose left one is empty
  pub cells_right : (w : ℕ) → part_of_word z w ≡ left → i ≡ suc w → get_or ws w 0 ≡ 0 →
      active_cells z new ≡ active_cells z ws
  cells_right w is at none = sum_same (cells_of z) (λ c. active_at new (left_word z c))
      (λ c. active_at ws (left_word z c)) same
    where
      same : (c : ℕ) → c < cells_of z → active_at new (left_word z c) ≡ active_at ws (left_word z c)
      same c lt =
          let u : ℕ = left_word z c in
          let h = part_cell z c lt in
          let off : u ≢ i = λ e. let bad : left ≡ right = sym h.0 ∙ ap (part_of_word z) (e ∙ at)
          ∙ (is_left z w is).0 in absurd (cc) in
          elim (cases_eq u w) [
            | inl e ↦
                let old : get_or ws u 0 ≡ 0 = ap (λ a. get_or ws a 0) e ∙ none in
                active_empty (get_or new u 0) (get_or new (suc u) 0) (other_word u off ∙ old)
                ∙ sym (active_empty (get_or ws u 0) (get_or ws (suc u) 0) old)
            | inr d ↦ same_at u off (λ e. d (omega (arith, e, at)))
          ]

-- the claims of a view whose right words stay
pub claims_same : (new old : List ℕ) (v : View) →
    ((a y : ℕ) → IsIn (a, y) v.taken → get_or new (suc a) 0 ≡ get_or old (suc a) 0) →
    active_claims new v ≡ active_claims old v
claims_same new old v h = total_among (λ (q : ℕ × ℕ). active_in q.1 (get_or new (suc q.0) 0))
    (λ (q : ℕ × ℕ). active_in q.1 (get_or old (suc q.0) 0)) v.taken (λ q m. ap (active_in q.1) (h q.0 q.1 m))
