-- Where nothing is under way the words of cells are what they will be, so that no active pair is overlooked.
-- Used in `nothing_is_overlooked`.
use Rattle.std.proofs.Common.{◌≡◌, ◌≢◌, ℕ, suc, ◌<◌, List, [], get_or, inl, inr, sym, ap, ◌∙◌, subst, arith}
use Rattle.ol_law_edges.specs.Edges.{IsIn}
use Rattle.ol_wire.specs.declared.plan.Plan.{Plan}
use Rattle.ol_wire.specs.declared.view.View.{View}
use Rattle.ol_wire.specs.References.{IsNodeRef}
use Rattle.ol_wire.specs.Layout.{left, part_of_word, left_word, cells_of, table_size}
use Rattle.ol_wire.specs.Events.{IsStuckPair}
use Rattle.ol_wire.specs.Rule.{Table, IsView, Kept, IsOwn}
use Rattle.ol_wire.specs.Still.{IsSettled, IsStill, NothingIsOverlooked}
use Rattle.ol_wire.proofs.InWords.Places.{part_cell}
use Rattle.ol_wire.proofs.InWords.Held.{Holds, owner}
use Rattle.ol_wire.proofs.Closing.Cells.{cell_word}
use Rattle.ol_wire.proofs.InWords.Overlooked.{complete}

module _ (p : Plan) (s : Table) (k : Kept p s) (settled : IsSettled s) (still : IsStill p s) where
  -- a word that no ticket's seat writes, and that will not be empty, is written already
  written : (w : ℕ) → (IsOwn (part_of_word p.parts w) → ⊥) → w < table_size p.parts →
      get_or k.full w 0 ≢ 0 → get_or s.words w 0 ≡ get_or k.full w 0
  written w not_own lt some = elim (owner p s k w lt some) [
    | inl e ↦ e
    | inr h ↦ absurd (held h.0 h.1 h.2)
  ]
    where
      held : (v : View) → IsView s v → Holds v w (get_or k.full w 0) → ⊥
      held v is (inl i) = not_own (k.seats.due v w (get_or k.full w 0) is i).1
      held v is (inr i) = let none : IsIn {X = ℕ × ℕ} (w, get_or k.full w 0) [] = subst
          (λ (l : List (ℕ × ℕ)). IsIn {X = ℕ × ℕ} (w, get_or k.full w 0) l) (settled v is).0 i in elim none [ ]

  at_cell : (c : ℕ) → c < cells_of p.parts → get_or k.full (left_word p.parts c) 0 ≢ 0 →
      IsNodeRef (get_or k.full (suc (left_word p.parts c)) 0)
      → IsStuckPair (get_or k.full (left_word p.parts c) 0) (get_or k.full (suc (left_word p.parts c)) 0)
  at_cell c lt some node =
      let place = part_cell p.parts c lt in
      let w : ℕ = left_word p.parts c in
      let l : get_or s.words w 0 ≡ get_or k.full w 0 = written w (λ o. subst IsOwn place.0 o)
      (omega (arith, place.2)) some in
      let r : get_or s.words (suc w) 0 ≡ get_or k.full (suc w) 0 = written (suc w)
      (λ o. subst IsOwn place.1 o) place.2 (λ e. omega (arith, e, node)) in
      subst (λ x. IsStuckPair x (get_or k.full (suc w) 0)) l
      (subst (λ y. IsStuckPair (get_or s.words w 0) y) r (still c lt (λ e. some (sym l ∙ e))))

  pub none_active : (w : ℕ) → part_of_word p.parts w ≡ left → get_or k.full w 0 ≢ 0 →
      IsStuckPair (get_or k.full w 0) (get_or k.full (suc w) 0)
  none_active w q some =
      let t = cell_word p.parts w q in
      let node : IsNodeRef (get_or k.full (suc w) 0) = (k.words.cells w q some).1 in
      subst (λ u. IsStuckPair (get_or k.full u 0) (get_or k.full (suc u) 0)) t.2
      (at_cell t.0 t.1 (λ e. some (ap (λ u. get_or k.full u 0) (sym t.2) ∙ e))
      (subst (λ u. IsNodeRef (get_or k.full (suc u) 0)) (sym t.2) node))

pub nothing_overlooked : NothingIsOverlooked
nothing_overlooked p s k settled still = complete p s k (λ v is. (settled v is).1) (none_active p s k settled still)
