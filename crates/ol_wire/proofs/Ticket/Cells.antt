-- The cells after a ticket below the fuel: that of its pair stays empty, and its links are those of
-- the cells in its own block.
-- Used in Keeps and Seats.
use Rattle.std.proofs.Common.{◌≡◌, ◌≢◌, ℕ, zero, suc, ◌+◌, ◌*◌, ◌<◌, ◌≤◌, if◌then◌else◌, nat_eq, eq-eqb, ne_eqb, ◌⊎◌}
use Rattle.std.proofs.Common.{inl, inr, Option, Some, None, List, [], ◌∷◌, ◌++◌, length, slice_get, slice_index, sym}
use Rattle.std.proofs.Common.{refl, ap, ◌∙◌, subst, arith}
use Rattle.std.proofs.lemmas.Bool.{cases_eq, cases_lt}
use Rattle.std.proofs.lemmas.Option.{slice_get_within}
use mathlib.Core.Option.{some}
use lib.ListN.{get_elem?}
use Rattle.ol_law_edges.specs.Edges.{IsIn}
use Rattle.ol_net.specs.declared.parts.Rule.{Rule}
use Rattle.ol_rules.specs.Listed.{each}
use Rattle.ol_rules.proofs.Lists.{in_each_of}
use Rattle.ol_wire.specs.declared.layout.Parts.{Parts}
use Rattle.ol_wire.specs.declared.plan.Plan.{Plan}
use Rattle.ol_wire.specs.declared.view.Link.{Link}
use Rattle.ol_wire.specs.declared.view.View.{View}
use Rattle.ol_wire.specs.References.{index_in}
use Rattle.ol_wire.specs.Layout.{left, part_of_word, block, place_of, born_cell, left_word, cells_of}
use Rattle.ol_wire.specs.Weights.{total}
use Rattle.ol_wire.specs.Edges.{times_in}
use Rattle.ol_wire.specs.Events.{Event, rule_between, acting, event_of, IsStuckPair}
use Rattle.ol_wire.specs.LinkLists.{joins_in, link_of, links_of}
use Rattle.ol_wire.specs.Plays.{cell_at, swept_on, event_in}
use Rattle.ol_wire.specs.StepPlays.{cell_in_hand, IsLookedUp, ticketed}
use Rattle.ol_wire.specs.Rule.{Table, IsView, IsMadeRef, IsRightOf, Kept, CellsKeep, links_at, times_published, filled}
use Rattle.ol_wire.proofs.InWords.References.{index_of_ref}
use Rattle.ol_wire.proofs.InWords.Alike.{total_append}
use Rattle.ol_wire.proofs.InWords.Claimed.{IsNodeAt, IsCellPair, cell_pair}
use Rattle.ol_wire.proofs.InWords.Held.{total_from, two_at}
use Rattle.ol_wire.proofs.InWords.Places.{part_born_cell, part_cell, is_left}
use Rattle.ol_wire.proofs.Ticket.Journal.{got_before, got_one_more, length_one_more}
use Rattle.ol_wire.proofs.Ticket.Lists.{total_set, by_place}
use Rattle.ol_wire.proofs.Ticket.Refs.{event_of_pair, joins_few, link_ends}
use Rattle.ol_wire.proofs.Ticket.Words as words
use Rattle.ol_wire.proofs.Ticket.Drawn.{one_if, own_before}
use Rattle.ol_wire.proofs.Ticket.Numbers.{cell_before, before_cell, left_of_cell}
use Rattle.ol_wire.proofs.Steps.Swept.{swept_more}

-- links whose cells stand two words apart
module _ (row : ℕ → Link) (c : ℕ) (at : (j : ℕ) → (row j).cell ≡ c + 2 * j) where
  row_links : ℕ → List Link
  row_links n = each n (λ j. row j ∷ [])

  last_at : (u n : ℕ) → links_at u (each (suc n) (λ j. row j ∷ [])) ≡ links_at u
      (each n (λ j. row j ∷ [])) + one_if (nat_eq (row n).cell u)
  last_at u n = omega (
    arith,
    total_append (λ (l : Link). if nat_eq l.cell u then 1 else 0)
        (each n (λ j. row j ∷ [])) (row n ∷ []),
  )

  pub cell_from : (n u : ℕ) → 0 < links_at u (each n (λ j. row j ∷ [])) → (j : ℕ) × (j < n) × (u ≡ c + 2 * j)
  cell_from zero u h = absurd (omega (arith, h))
  cell_from (suc n) u h = elim (cases_eq (row n).cell u) [
    | inl q ↦ (n, omega arith, omega (arith, at n, q))
    | inr d ↦
        let z : one_if (nat_eq (row n).cell u) ≡ 0 = ap one_if (ne_eqb (row n).cell u d) in
        let t = cell_from n u (omega (arith, h, last_at u n, z)) in
        let lt = t.1 in
        (t.0, omega arith, t.2)
  ]

  pub cell_once : (n u : ℕ) → links_at u (each n (λ j. row j ∷ [])) ≤ 1
  cell_once zero u = omega arith
  cell_once (suc n) u = elim (cases_eq (row n).cell u) [
    | inl q ↦
        let one : one_if (nat_eq (row n).cell u) ≡ 1 = ap one_if (eq-eqb (row n).cell u q) in
        elim (cases_eq (links_at u (each n (λ j. row j ∷ []))) 0) [
          | inl empty ↦ omega (arith, last_at u n, one, empty)
          | inr more ↦ let t = cell_from n u (omega (arith, more)) in
              absurd (let lt = t.1 in let e = t.2 in omega (arith, at n, q))
        ]
    | inr d ↦
        let z : one_if (nat_eq (row n).cell u) ≡ 0 = ap one_if (ne_eqb (row n).cell u d) in
        omega (arith, last_at u n, z, cell_once n u)
  ]

-- a link whose cell has left word u
pub link_with : (u : ℕ) (ls : List Link) → 0 < links_at u ls → (l : Link) × IsIn l ls × (l.cell ≡ u)
link_with u [] h = absurd (omega (arith, h))
link_with u (l ∷ ls) h = elim (cases_eq l.cell u) [
  | inl q ↦ (l, inl refl, q)
  | inr d ↦
      let n : one_if (nat_eq l.cell u) ≡ 0 = ap one_if (ne_eqb l.cell u d) in
      let r = link_with u ls (omega (arith, h, n)) in
      (r.0, inr r.1, r.2)
]

-- the second of two nodes is one of those of their event
right_side : (l r : ℕ) → (r ≡ (event_of l r).f) ⊎ (r ≡ (event_of l r).g)
right_side l r = go (rule_between l r) (rule_between r l)
  where
    go : (o q : Option Rule) → (r ≡ (acting o q l r).f) ⊎ (r ≡ (acting o q l r).g)
    go (Some x) q = inr refl
    go None (Some x) = inl refl
    go None None = inr refl

-- two nodes of which neither acts are no event
no_event : (l r : ℕ) → IsStuckPair l r → rule_between (event_of l r).f (event_of l r).g ≡ None
no_event l r h =
    let q : event_of l r ≡ acting None None l r = ap (λ o. acting o (rule_between r l) l r) h.0
    ∙ ap (λ o. acting None o l r) h.1 in
    ap (λ (x : Event). rule_between x.f x.g) q ∙ h.0

module _ (p : Plan) (s : Table) (k : Kept p s) (id : ℕ) (v : View)
    (here : get_elem? s.views id ≡ some v) (w : ℕ) (ready : IsLookedUp v w)
    (low : slice_index s.words 0 < p.parts.fuel) where
  abbrev z : Parts
  z = p.parts

  abbrev t : ℕ
  t = slice_index s.words 0

  abbrev e : Event
  e = event_in v

  abbrev a : ℕ → ℕ
  a = words.a p s k id v here w ready low

  abbrev b : ℕ → ℕ
  b = words.b p s k id v here w ready low

  abbrev full' : List ℕ
  full' = words.full' p s k id v here w ready low

  abbrev s' : Table
  s' = words.table_after s id v

  abbrev log' : List Event
  log' = k.log ++ event_in v ∷ []

  abbrev from' : List ℕ
  from' = k.from ++ w ∷ []

  seen : IsView s v
  seen = (id, here)

  drawn_is : length k.log ≡ t
  drawn_is = words.drawn_is p s k id v here w ready low

  is_left_word : part_of_word z w ≡ left
  is_left_word = words.is_left_word p s k id v here w ready low

  cell_below : w < block z t
  cell_below = words.cell_below p s k id v here w ready low

  left_full : slice_index k.full w ≡ v.last.0
  left_full = words.left_full p s k id v here w ready low

  right_full : slice_index k.full (suc w) ≡ v.last.1
  right_full = words.right_full p s k id v here w ready low

  left_some : slice_index k.full w ≢ 0
  left_some q = words.left_some p s k id v here w ready low (sym left_full ∙ q)

  cell_gone : slice_index full' w ≡ 0
  cell_gone = words.cell_gone p s k id v here w ready low

  left_word_still : (u : ℕ) → part_of_word z u ≡ left → u ≢ w → slice_index full' u ≡ slice_index k.full u
  left_word_still = words.left_word_still p s k id v here w ready low

  right_word_still : (u : ℕ) → part_of_word z u ≡ left → slice_index full' (suc u) ≡ slice_index k.full (suc u)
  right_word_still u is = words.right_word_still p s k id v here w ready low (suc u) (is_left z u is).0

  viewed : (P : View → Type 0) → P (ticketed v t) → ((u : View) → IsView s u → P u) → (u : View) → IsView s' u → P u
  viewed = words.viewed p s k id v here w ready low

  -- the cells of the links that other tickets left come before this one
  old_cell : (u : View) (l : Link) → IsView s u → IsIn l u.pending → l.cell < block z t
  old_cell u l is i = omega (arith, own_before p s k u l.cell is (k.seats.links u l is i), drawn_is)

  from_length : length from' ≡ length log'
  from_length = omega (arith, length_one_more k.from w, length_one_more k.log e, k.cells.tickets)

  -- an empty cell stays empty
  still_empty : (u : ℕ) → part_of_word z u ≡ left → slice_index k.full u ≡ 0 → slice_index full' u ≡ 0
  still_empty u is h = left_word_still u is (λ q. left_some (ap (slice_index k.full) (sym q) ∙ h)) ∙ h

  -- the right word of the pair is one of the two nodes, and stays
  right_node : (slice_index full' (suc w) ≡ e.f) ⊎ (slice_index full' (suc w) ≡ e.g)
  right_node = subst (λ y. (y ≡ e.f) ⊎ (y ≡ e.g))
      (sym (right_word_still w is_left_word ∙ right_full)) (right_side v.last.0 v.last.1)

  abbrev IsUsed : ℕ → ℕ → Type 0
  IsUsed n u = (part_of_word z u ≡ left) × (u < block z n) × (slice_index full' u ≡ 0)
      × ((d : Event) → slice_get log' n ≡ Some d →
      (slice_index full' (suc u) ≡ d.f) ⊎ (slice_index full' (suc u) ≡ d.g))

  used : (n u : ℕ) → slice_get from' n ≡ Some u → IsUsed n u
  used n u q = go (got_one_more k.from w u n q)
    where
      go : (slice_get k.from n ≡ Some u) ⊎ ((n ≡ length k.from) × (u ≡ w)) → IsUsed n u
      go (inl old) =
          let h = k.cells.used n u old in
          let lt : n < length k.log = omega (arith, slice_get_within k.from n u old, k.cells.tickets) in (
            h.0,
            h.1,
            still_empty u h.0 h.2,
            (λ d is.
                subst (λ y. (y ≡ d.f) ⊎ (y ≡ d.g)) (sym (right_word_still u h.0))
                (h.3 d (sym (got_before k.log (e ∷ []) n lt) ∙ is))),
          )
      go (inr new) =
          let is_last : n ≡ length k.from = new.0 in
          let is_w : u ≡ w = new.1 in (
            ap (part_of_word z) is_w ∙ is_left_word,
            omega (arith, is_w, is_last, k.cells.tickets, drawn_is, cell_below),
            ap (slice_index full') is_w ∙ cell_gone,
            (λ d is. of d (got_one_more k.log e d n is) is_last is_w),
          )
        where
          of : (d : Event) → (slice_get k.log n ≡ Some d) ⊎ ((n ≡ length k.log) × (d ≡ e)) →
              n ≡ length k.from → u ≡ w → (slice_index full' (suc u) ≡ d.f) ⊎ (slice_index full' (suc u) ≡ d.g)
          of d (inl old) is_last is_w = absurd (omega (arith, slice_get_within k.log n d old, k.cells.tickets, is_last))
          of d (inr last) is_last is_w = subst
              (λ (x : Event). (slice_index full' (suc u) ≡ x.f) ⊎ (slice_index full' (suc u) ≡ x.g))
              (sym last.1) (subst (λ a. (slice_index full' (suc a) ≡ e.f)
              ⊎ (slice_index full' (suc a) ≡ e.g)) (sym is_w) right_node)

  used_below : (n u : ℕ) → slice_get from' n ≡ Some u → u < block z t
  used_below n u q =
      let lt = (used n u q).1 in
      omega (arith, lt, slice_get_within from' n u q, from_length, length_one_more k.log e, drawn_is)

  -- the links of the ticket
  pub link_found : (l : Link) → IsIn l (ticketed v t).pending → (j : ℕ) × (j < joins_in e) × (l ≡ link_of z e t a b j)
  link_found l i = of_row (in_each_of l (joins_in e) (λ j. link_of z e t a b j ∷ [])
      (subst (λ ls. IsIn l ls) (words.pending_is p s k id v here w ready low) i))
    where
      one : (j : ℕ) → IsIn l (link_of z e t a b j ∷ []) → l ≡ link_of z e t a b j
      one j (inl q) = q
      one j (inr h) = absurd h

      of_row : (j : ℕ) × (j < joins_in e) × IsIn l (link_of z e t a b j ∷ []) →
          (j : ℕ) × (j < joins_in e) × (l ≡ link_of z e t a b j)
      of_row r = (r.0, r.1, one r.0 r.2)

  -- their cells are in the ticket's block
  pub new_cell : (l : Link) → IsIn l (ticketed v t).pending → (j : ℕ) × (j < 4) × (l.cell ≡ born_cell z t j)
  new_cell l i = let h = link_found l i in let lt = h.1 in
      (h.0, omega (arith, joins_few e), ap (λ (l : Link). l.cell) h.2)

  abbrev Unpublished : View → Type 0
  Unpublished u = (l : Link) → IsIn l u.pending →
      (part_of_word z l.cell ≡ left) × (slice_index full' l.cell ≡ 0)
      × IsRightOf u l (slice_index full' (suc l.cell)) × ((n y : ℕ) → slice_get from' n ≡ Some y → y ≢ l.cell)

  unpublished_new : Unpublished (ticketed v t)
  unpublished_new l i =
      let h = new_cell l i in
      let c : l.cell ≡ born_cell z t h.0 = h.2 in
      let r = part_born_cell z t h.0 low h.1 in
      let is : part_of_word z l.cell ≡ left = ap (part_of_word z) c ∙ r.0 in
      let empty : (u : ℕ) → block z t ≤ u →
      slice_index k.full u ≡ 0 = λ u le. k.words.fresh u (omega (arith, le, drawn_is)) in (
        is,
        still_empty l.cell is (empty l.cell (omega (arith, c))),
        inl (right_word_still l.cell is ∙ empty (suc l.cell) (omega (arith, c))),
        λ n y q same. omega (arith, used_below n y q, same, c),
      )

  unpublished_old : (u : View) → IsView s u → Unpublished u
  unpublished_old u is l i =
      let h = k.cells.unpublished u l is i in (
        h.0,
        still_empty l.cell h.0 h.1,
        subst (IsRightOf u l)
            (sym (right_word_still l.cell h.0)) h.2,
        λ n y q. unused h.3 n y (got_one_more k.from w y n q),
      )
    where
      unused : ((n y : ℕ) → slice_get k.from n ≡ Some y → y ≢ l.cell) → (n y : ℕ) →
          (slice_get k.from n ≡ Some y) ⊎ ((n ≡ length k.from) × (y ≡ w)) → y ≢ l.cell
      unused old n y (inl q) = old n y q
      unused old n y (inr new) = λ same. left_some
          (ap (slice_index k.full) (sym new.1 ∙ same) ∙ (k.cells.unpublished u l is i).1)

  one_link : (u : ℕ) → total (λ (x : View). links_at u x.pending) s'.views ≤ 1
  one_link u =
      let change = total_set (λ (x : View). links_at u x.pending) s.views id v (ticketed v t) here in
      let gone : links_at u v.pending ≡ 0 = ap (links_at u) ready.nothing_pending in
      let come : links_at u (ticketed v t).pending ≡ links_at u (links_of z e t a b) = ap
      (links_at u) (words.pending_is p s k id v here w ready low) in
      elim (cases_eq (links_at u (links_of z e t a b)) 0) [
        | inl nothing ↦ omega (arith, change, gone, come, nothing, k.cells.one_link u)
        | inr some_new ↦ elim (cases_eq (total (λ (x : View). links_at u x.pending) s.views) 0) [
          | inl nothing ↦ omega (
            arith,
            change,
            gone,
            come,
            nothing,
            cell_once (link_of z e t a b) (block z t + 14) (λ j. refl) (joins_in e) u,
          )
          | inr some_old ↦
              let at = cell_from (link_of z e t a b) (block z t + 14) (λ j. refl) (joins_in e) u
              (omega (arith, some_new)) in
              absurd (omega (arith, at.2, linked_before u (omega (arith, some_old))))
        ]
      ]
    where
      linked_before : (u : ℕ) → 0 < total (λ (x : View). links_at u x.pending) s.views → u < block z t
      linked_before u h =
          let o = total_from (λ (x : View). links_at u x.pending) s.views h in
          let l = link_with u o.1.pending o.3 in
          let c : l.0.cell ≡ u = l.2 in
          omega (arith, old_cell o.1 l.0 (o.0, o.2) l.1, c)

  -- indexes fit a reference
  node_small : (r : ℕ) → IsNodeAt z k.net r → index_in r < 16000000
  node_small r n =
      let few = k.journal.indexes n.x n.k n.i n.has in
      omega (
        arith,
        few,
        ap index_in n.is,
        index_of_ref n.k n.i (place_of z n.x)
            (omega (arith, few, k.tickets.few, k.plan.small.fuel)),
        k.tickets.few,
        k.plan.small.fuel,
      )

  small : index_in e.g < 16000000
  small =
      let cell : IsCellPair p s k w = cell_pair p s k w is_left_word left_some in
      (event_of_pair (λ r. index_in r < 16000000) v.last.0 v.last.1
      (subst (λ r. index_in r < 16000000) left_full (node_small (slice_index k.full w) cell.f))
      (subst (λ r. index_in r < 16000000) right_full (node_small (slice_index k.full (suc w)) cell.g))).1

  longer : (r : ℕ) → IsMadeRef z k.log r → IsMadeRef z log' r
  longer = words.made_longer p s k id v here w ready low

  abbrev LinkRefs : View → Type 0
  LinkRefs u = (l : Link) → IsIn l u.pending → IsMadeRef z log' l.one × IsMadeRef z log' l.two

  link_refs_new : LinkRefs (ticketed v t)
  link_refs_new l i =
      let h = link_found l i in
      let r = link_ends z e t (block z (length log'))
      (omega (arith, length_one_more k.log e, drawn_is)) a b ready.rule small
      (λ n lt. longer (a n) (words.f_field p s k id v here w ready low n lt).2)
      (λ n lt. longer (b n) (words.g_field p s k id v here w ready low n lt).2) h.0 h.1 in
      subst (λ (l : Link). IsMadeRef z log' l.one × IsMadeRef z log' l.two) (sym h.2) r

  link_refs_old : (u : View) → IsView s u → LinkRefs u
  link_refs_old u is l i = let h = k.cells.link_refs u l is i in (longer l.one h.0, longer l.two h.1)

  -- the number of the cell whose pair is rewritten
  abbrev number : ℕ
  number = cell_at z w

  number_back : left_word z number ≡ w
  number_back = left_of_cell z w is_left_word

  number_below : number < z.cells + 4 * t
  number_below = before_cell z number t (omega (arith, number_back, cell_below))

  -- its pair is active, so it wasn't swept
  unswept : v.swept ≤ number
  unswept = elim (cases_lt number v.swept) [
    | inl lt ↦ absurd (go (k.cells.swept v number seen lt).1)
    | inr ge ↦ ge
  ]
    where
      go : (slice_index k.full (left_word z number) ≡ 0)
          ⊎ IsStuckPair (slice_index k.full (left_word z number)) (slice_index k.full (suc (left_word z number))) → ⊥
      go (inl h) = left_some (ap (slice_index k.full) (sym number_back) ∙ h)
      go (inr h) =
          let stuck : IsStuckPair v.last.0 v.last.1 = subst (λ r. IsStuckPair v.last.0 r) right_full
          (subst (λ l. IsStuckPair l (slice_index k.full (suc w))) left_full
          (subst (λ u. IsStuckPair (slice_index k.full u) (slice_index k.full (suc u))) number_back h)) in
          let bad : None ≡ Some e.rule = sym (no_event v.last.0 v.last.1 stuck) ∙ ready.rule in
          cc

  abbrev Swept : View → Type 0
  Swept u = (c : ℕ) → c < u.swept → (u.holds ≡ p.seats)
      × ((slice_index full' (left_word z c) ≡ 0)
      ⊎ IsStuckPair (slice_index full' (left_word z c)) (slice_index full' (suc (left_word z c))))
      × ((l : Link) → IsIn l u.pending → l.cell ≢ left_word z c)

  idle_still : (u : ℕ) → part_of_word z u ≡ left →
      (slice_index k.full u ≡ 0) ⊎ IsStuckPair (slice_index k.full u) (slice_index k.full (suc u)) →
      (u ≡ w) ⊎ (u ≢ w) → (slice_index full' u ≡ 0) ⊎ IsStuckPair (slice_index full' u) (slice_index full' (suc u))
  idle_still u is h (inl q) = inl (ap (slice_index full') q ∙ cell_gone)
  idle_still u is (inl h) (inr d) = inl (still_empty u is h)
  idle_still u is (inr h) (inr d) = inr
      (subst (λ l. IsStuckPair l (slice_index full' (suc u))) (sym (left_word_still u is d))
      (subst (IsStuckPair (slice_index k.full u)) (sym (right_word_still u is)) h))

  -- a new link's cell comes after those that were there
  new_unswept : (c : ℕ) → c ≤ number → (l : Link) → IsIn l (ticketed v t).pending → l.cell ≢ left_word z c
  new_unswept c le l i q =
      let h = new_cell l i in
      let at : l.cell ≡ born_cell z t h.0 = h.2 in
      omega (arith, at, q, cell_before z c t (omega (arith, le, number_below)))

  swept_new : Swept (ticketed v t)
  swept_new c lt =
      let same : cell_at v.parts (cell_in_hand v.taken) ≡ number = ap
      (λ x. cell_at x (cell_in_hand v.taken)) (words.parts_are p s k id v here w ready low)
      ∙ ap (λ l. cell_at z (cell_in_hand l)) ready.taken in
      go (swept_more v number c (subst (λ m. c < swept_on v m) same lt))
    where
      go : (c < v.swept) ⊎ ((v.holds ≡ v.seats) × (c ≡ number)) →
          (v.holds ≡ p.seats) × ((slice_index full' (left_word z c) ≡ 0)
          ⊎ IsStuckPair (slice_index full' (left_word z c))
          (slice_index full' (suc (left_word z c))))
          × ((l : Link) → IsIn l (ticketed v t).pending → l.cell ≢ left_word z c)
      go (inl old) =
          let h = k.cells.swept v c seen old in
          let below : c < cells_of z = omega (arith, old, unswept, number_below, low) in (
            h.0,
            idle_still (left_word z c) (part_cell z c below).0 h.1 (cases_eq (left_word z c) w),
            new_unswept c (omega (arith, old, unswept)),
          )
      go (inr new) =
          let is_number : c ≡ number = new.1 in (
            new.0 ∙ (k.seats.plans v seen ready.held).1,
            inl (ap (λ c. slice_index full' (left_word z c)) is_number
                ∙ ap (slice_index full') number_back ∙ cell_gone),
            new_unswept c (omega (arith, is_number)),
          )

  -- another view that had swept cells would hold all seats
  swept_old : (j : ℕ) (u : View) → j ≢ id → get_elem? s.views j ≡ some u → Swept u
  swept_old j u d at c lt =
      let all_held = (k.cells.swept u c (j, at) lt).0 in
      absurd (omega (
        arith,
        all_held,
        two_at (λ (x : View). x.holds) s.views j id u v d at here,
        k.seats.all,
        ready.held,
      ))

  -- the cell is empty where its pair was, and is among those that were used once more
  published : (u : ℕ) → part_of_word z u ≡ left → block z 0 ≤ u →
      times_published z u s'.views ≡ filled (slice_index full' u) + times_in u from'
  published u is le = elim (cases_eq u w) [
    | inl q ↦
        let one : one_if (nat_eq w u) ≡ 1 = ap one_if (eq-eqb w u (sym q)) in
        let was : filled (slice_index k.full u) ≡ 1 = ap (λ b. if b then 0 else 1)
        (ne_eqb (slice_index k.full u) 0 (λ o. left_some (ap (slice_index k.full) (sym q) ∙ o))) in
        let now : filled (slice_index full' u) ≡ 0 = ap filled (ap (slice_index full') q ∙ cell_gone) in
        omega (arith, same_views, k.cells.published u is le, more, one, was, now)
    | inr d ↦
        let none_new : one_if (nat_eq w u) ≡ 0 = ap one_if (ne_eqb w u (λ q. d (sym q))) in
        omega (arith, same_views, k.cells.published u is le, more, none_new, ap filled (left_word_still u is d))
  ]
    where
      same_views : times_published z u s'.views ≡ times_published z u s.views
      same_views = omega (
        arith,
        total_set
            (λ (v : View). times_in (cell_at z u) v.published) s.views id v (ticketed v t) here,
      )

      more : times_in u from' ≡ times_in u k.from + one_if (nat_eq w u)
      more = omega (arith, total_append (λ x. if nat_eq x u then 1 else 0) k.from (w ∷ []))

  pub cells_after : CellsKeep p s' log' from' full'
  cells_after = record {
    tickets = from_length;
    used = used;
    unpublished = λ u l is. viewed Unpublished unpublished_new unpublished_old u is l;
    one_link = one_link;
    link_refs = λ u l is. viewed LinkRefs link_refs_new link_refs_old u is l;
    swept = λ u c is. by_place Swept s.views id (ticketed v t) swept_new swept_old is.0 u is.1 c;
    published = published;
  }
