-- The cell of the first pending link: it is in the block of a ticket that the view has drawn, and
-- no other link and no cell that was swept has it.
-- Used in Allowed and Publish.
use Rattle.std.proofs.Common.{◌≡◌, ◌≢◌, ℕ, suc, ◌+◌, ◌<◌, ◌≤◌, Some, List, ◌∷◌, length, get_or, sym}
use Rattle.std.proofs.Common.{refl, ap, ◌∙◌, subst, inl, inr, arith}
use Rattle.std.proofs.lemmas.Bool.{cases_eq, cases_lt}
use Rattle.std.proofs.lemmas.List.{length-map}
use mathlib.Core.Option.{some}
use lib.ListN.{get_elem?}
use Rattle.core.specs.Prelude.{slice_get}
use Rattle.ol_law_edges.specs.Edges.{IsIn}
use Rattle.ol_rules.specs.declared.journal.Entry.{Entry}
use Rattle.ol_wire.specs.declared.layout.Parts.{Parts}
use Rattle.ol_wire.specs.declared.plan.Plan.{Plan}
use Rattle.ol_wire.specs.declared.view.Link.{Link}
use Rattle.ol_wire.specs.declared.view.View.{View}
use Rattle.ol_wire.specs.Events.{entry_of}
use Rattle.ol_wire.specs.Layout.{left, right, entry, part_of_word, start_cell, block, left_word, cells_of}
use Rattle.ol_wire.specs.Weights.{pairs}
use Rattle.ol_wire.specs.Rule.{Table, Kept, IsView, IsMadeRef, IsRightOf, links_at, entries_of}
use Rattle.ol_wire.proofs.InWords.Places.{is_left, part_cell, part_entry}
use Rattle.ol_wire.proofs.Steps.Lists.{one_below}
use Rattle.ol_wire.proofs.LinkSteps.Lists.{link_counts, link_apart, at_number, number_in, number_below}
use Rattle.ol_wire.proofs.LinkSteps.Exchange.{left_past_all}
use Rattle.ol_wire.proofs.InWords.Held.{two_at}

module _ (p : Plan) (s : Table) (k : Kept p s) (id : ℕ) (v : View)
    (here : get_elem? s.views id ≡ some v) (l : Link) (ls : List Link) (pending : v.pending ≡ l ∷ ls) where
  abbrev z : Parts
  z = p.parts

  seen : IsView s v
  seen = (id, here)

  pub first_in : IsIn l v.pending
  first_in = subst (λ (ms : List Link). IsIn l ms) (sym pending) (inl refl)

  pub cell_open : (part_of_word z l.cell ≡ left) × (get_or k.full l.cell 0 ≡ 0)
      × IsRightOf v l (get_or k.full (suc l.cell) 0) × ((t w : ℕ) → slice_get k.from t ≡ Some w → w ≢ l.cell)
  cell_open = k.cells.unpublished v l seen first_in

  pub ends_made : IsMadeRef z k.log l.one × IsMadeRef z k.log l.two
  ends_made = k.cells.link_refs v l seen first_in

  pub right_part : part_of_word z (suc l.cell) ≡ right
  right_part = (is_left z l.cell cell_open.0).0

  drawn : (t : ℕ) (x : Entry) → IsIn (t, x) v.made → t < length k.log
  drawn t x m =
      omega (
        arith,
        number_below t 0 (entries_of z k.log)
            (omega (
              arith,
              number_in t x v.made m,
              one_below (λ (u : View). pairs (at_number t) u.made) s.views id v here,
              k.seats.made (at_number t),
            )),
        length-map k.log (entry_of z),
      )

  before : (t : ℕ) → t < length k.log → l.cell < block z t + 22 → suc l.cell < block z t + 22
  before t lt low = elim (cases_eq (suc l.cell) (block z t + 22)) [
    | inr d ↦ omega (arith, low, d)
    | inl e ↦ elim (cases_lt (suc t) z.fuel) [
      | inl b ↦
          let at : suc l.cell ≡ block z (suc t) + 0 = omega (arith, e) in
          let clash : right ≡ entry = sym right_part ∙ ap (part_of_word z) at
          ∙ part_entry z (suc t) 0 b (omega arith) in
          absurd (cc)
      | inr b ↦ absurd (omega (arith, (is_left z l.cell cell_open.0).1, e, b))
    ]
  ]

  -- the two words of the cell are in a block that was drawn
  pub in_blocks : (block z 0 ≤ l.cell) × (suc l.cell < block z (length k.log))
  in_blocks =
      let t = k.seats.links v l seen first_in in
      let lt = drawn t.0 t.1 t.2 in
      (omega (arith, t.3.0), omega (arith, lt, before t.0 lt t.3.1))

  pub not_start : (c : ℕ) → c < z.cells →
      (start_cell z c ≢ l.cell) × (suc (start_cell z c) ≢ l.cell) × (start_cell z c ≢ suc l.cell)
  not_start c lt = (
    (λ e. omega (arith, lt, e, in_blocks.0)),
    (λ e. omega (arith, lt, e, in_blocks.0)),
    (λ e. omega (arith, lt, e, in_blocks.0)),
  )

  own_few : (w : ℕ) → links_at w (l ∷ ls) ≤ 1
  own_few w = omega (
    arith,
    k.cells.one_link w,
    one_below (λ (u : View). links_at w u.pending) s.views id v here,
    ap (links_at w) pending,
  )

  -- another link of the view has another cell
  pub behind_apart : (m : Link) → IsIn m ls → m.cell ≢ l.cell
  behind_apart m i = link_apart ls l m own_few i

  pub others_apart : (j : ℕ) (u : View) (m : Link) → j ≢ id → get_elem? s.views j ≡ some u →
      IsIn m u.pending → m.cell ≢ l.cell
  others_apart j u m d e i q =
      omega (
        arith,
        k.cells.one_link l.cell,
        two_at (λ (w : View). links_at l.cell w.pending) s.views id j v u (λ q. d (sym q)) here e,
        link_counts l.cell v.pending l first_in refl,
        link_counts l.cell u.pending m i q,
      )

  -- a left word is no right word
  pub left_right : (a b : ℕ) → part_of_word z a ≡ left → part_of_word z b ≡ right → a ≢ b
  left_right a b e f q = let clash : left ≡ right = sym e ∙ ap (part_of_word z) q ∙ f in absurd (cc)

  pub swept_apart : (c : ℕ) → c < v.swept →
      (left_word z c ≢ l.cell) × (suc (left_word z c) ≢ l.cell) × (left_word z c ≢ suc l.cell)
  swept_apart c lt =
      let d : left_word z c ≢ l.cell = λ e. (k.cells.swept v c seen lt).2 l first_in (sym e) in
      elim (cases_lt c (cells_of z)) [
        | inl low ↦
            let h = part_cell z c low in (
              d,
              (λ e. left_right l.cell (suc (left_word z c)) cell_open.0 h.1 (sym e)),
              left_right (left_word z c) (suc l.cell) h.0 right_part,
            )
        | inr high ↦
            let far = left_past_all z c high in (
              d,
              (λ e. omega (arith, far, e, (is_left z l.cell cell_open.0).1)),
              (λ e. omega (arith, far, e, (is_left z l.cell cell_open.0).1)),
            )
      ]
