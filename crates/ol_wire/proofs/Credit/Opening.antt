-- At the start the live word is the number of start cells whose pair is active.
-- Used in `lay_out`.
use Rattle.std.proofs.Common.{◌≡◌, ℕ, zero, suc, ◌+◌, ◌-◌, ◌/◌, ◌%◌, ◌<◌, ◌≤◌, List, get_or, set, refl, sym, ap, ◌∙◌}
use Rattle.std.proofs.Common.{arith, inl, inr, length-set, get_or-set_other, get_or-set_same}
use Rattle.std.proofs.lemmas.Bool.{cases_eq}
use Rattle.ol_net.specs.Graph.{Graph}
use Rattle.ol_wire.specs.declared.layout.Parts.{Parts}
use Rattle.ol_wire.specs.Layout.{port_word, start_node, start_wire, start_cell, left_word, born_cell, cells_of}
use Rattle.ol_wire.specs.LaidWords.{IsLaid}
use Rattle.ol_wire.specs.Weights.{sum_below}
use Rattle.ol_wire.specs.Credit.{active_at, active_cells}
use Rattle.ol_wire.proofs.Credit.Sums.{sum_same, active_empty}
use Rattle.ol_wire.proofs.Credit.Words.{cells_off}
use Rattle.ol_law_edges.proofs.Lists.{if_below, if_above}

sum_beyond : (m n : ℕ) (f : ℕ → ℕ) → m ≤ n → ((c : ℕ) → m ≤ c → f c ≡ 0) → sum_below n f ≡ sum_below m f
sum_beyond zero zero f le none = refl
sum_beyond (suc m) zero f le none = absurd (omega (arith, le))
sum_beyond m (suc n) f le none = elim (cases_eq m (suc n)) [
  | inl e ↦ ap (λ a. sum_below a f) (sym e)
  | inr d ↦ omega (arith, sum_beyond m n f (omega (arith, le, d)) none, none n (omega (arith, le, d)))
]

module _ (net : Graph) (z : Parts) (ws : List ℕ) (laid : IsLaid net z ws) where
  -- the cells of blocks are empty
  start_alone : active_cells z ws ≡ sum_below z.cells (λ c. active_at ws (start_cell z c))
  start_alone = sum_beyond z.cells (cells_of z) (λ c. active_at ws (left_word z c))
      (omega arith) none ∙ sum_same z.cells (λ c. active_at ws (left_word z c))
      (λ c. active_at ws (start_cell z c)) (λ c lt. ap (active_at ws) (if_below c z.cells _ _ lt))
    where
      none : (c : ℕ) → z.cells ≤ c → active_at ws (left_word z c) ≡ 0
      none c le =
          let at : left_word z c ≡ born_cell z ((c - z.cells) / 4) ((c - z.cells) % 4) = if_above c z.cells _ _ le in
          active_empty (get_or ws (left_word z c) 0) (get_or ws (suc (left_word z c)) 0)
          (laid.blocks (left_word z c) (omega (arith, at)))

  module _ (x : ℕ) where
    apart : (u : ℕ) → 1 < u → get_or (set ws 1 x) u 0 ≡ get_or ws u 0
    apart u lt = get_or-set_other ws 1 u x 0 (λ e. omega (arith, lt, e))

    -- the live word is no word of the net
    pub laid_with : IsLaid net z (set ws 1 x)
    laid_with = record {
      wide = length-set ws 1 x ∙ laid.wide;
      ticket = get_or-set_other ws 1 0 x 0 (λ e. omega (arith, e)) ∙ laid.ticket;
      ports = λ n lt. apart (port_word n) (omega arith) ∙ laid.ports n lt;
      fields = λ n s lt small. apart (start_node z n + s) (omega arith) ∙ laid.fields n s lt small;
      wires = λ j lt. apart (start_wire z j) (omega arith) ∙ laid.wires j lt;
      cells = λ c p e. let h = laid.cells c p e in
          (apart (start_cell z c) (omega arith) ∙ h.0, apart (suc (start_cell z c)) (omega arith) ∙ h.1);
      blocks = λ w le. apart w (omega (arith, le)) ∙ laid.blocks w le;
    }

    pub live_with : x ≡ sum_below z.cells (λ c. active_at ws (start_cell z c)) →
        get_or (set ws 1 x) 1 0 ≡ active_cells z (set ws 1 x)
    live_with is = get_or-set_same ws 1 x 0 (omega (arith, laid.wide)) ∙ is ∙ sym start_alone
        ∙ sym (cells_off z ws 1 x (λ q. cc) (λ q. cc))
