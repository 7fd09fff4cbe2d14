-- The seats after a ticket below the fuel.
-- Used in Keeps.
use Rattle.std.proofs.Common.{◌≡◌, ◌≢◌, ℕ, ◌+◌, ◌-◌, ◌/◌, ◌%◌, ◌<◌, ◌≤◌, ◌↔◌, inl, inr, true, false, List, [], ◌∷◌}
use Rattle.std.proofs.Common.{◌++◌, length, slice_index, slice_get, sym, refl, ap, ◌∙◌, subst, arith}
use Rattle.std.proofs.lemmas.Bool.{cases_lt}
use mathlib.Core.Option.{some}
use lib.ListN.{get_elem?}
use Rattle.ol_law_edges.specs.Edges.{IsIn, bit}
use Rattle.ol_net.specs.declared.parts.Kind.{Kind}
use Rattle.ol_net.specs.Nets.{NamedNet, HasNode, Faces}
use Rattle.ol_rules.specs.declared.journal.NodeName.{NodeName}
use Rattle.ol_rules.specs.declared.journal.NodeName.TheVariants.{Born}
use Rattle.ol_rules.specs.declared.journal.Entry.{Entry}
use Rattle.ol_rules.specs.Rewriting.{action_of, NodeOf}
use Rattle.ol_wire.specs.declared.layout.Parts.{Parts}
use Rattle.ol_wire.specs.declared.plan.Plan.{Plan}
use Rattle.ol_wire.specs.declared.view.Link.{Link}
use Rattle.ol_wire.specs.declared.view.View.{View}
use Rattle.ol_wire.specs.References.{node_ref}
use Rattle.ol_wire.specs.Layout.{WordPart, ticket, live_word, port, field, wire, between, left}
use Rattle.ol_wire.specs.Layout.{right, entry, past, part_of_word, block, place_of}
use Rattle.ol_wire.specs.Weights.{total, pairs, weighed_by_place}
use Rattle.ol_wire.specs.Events.{Event, entry_of}
use Rattle.ol_wire.specs.Edges.{crosses_at, is_wire_made, is_made, times_in, deaths}
use Rattle.ol_wire.specs.Blocks.{block_words}
use Rattle.ol_wire.specs.Plays.{event_in}
use Rattle.ol_wire.specs.StepPlays.{IsLookedUp, ticketed}
use Rattle.ol_wire.specs.Views.{IsSpentView}
use Rattle.ol_wire.specs.Rule.{KnowsPlan, Table, IsView, IsOwn, IsInOwnBlock, Kept, SeatsKeep}
use Rattle.ol_wire.specs.Rule.{entries_of, IsLinkedField, JournalKeeps}
use Rattle.ol_wire.proofs.InWords.Alike.{pairs_append}
use Rattle.ol_wire.proofs.InWords.Places.{part_entry, part_field}
use Rattle.ol_wire.proofs.Ticket.Journal.{got_before}
use Rattle.ol_wire.proofs.Ticket.Lists.{total_set, numbered_more, get_past, to_write_from}
use Rattle.ol_wire.proofs.Ticket.Drawn.{entries_length}
use Rattle.ol_wire.proofs.Ticket.Words as words
use Rattle.ol_wire.proofs.Ticket.Cells as cells
use Rattle.ol_wire.proofs.Ticket.Fields as fields
use Rattle.ol_law_edges.proofs.Lists.{in_right}

-- a wire that was made stays made
crosses_still : (log : List Event) (e : Event) (t q p : ℕ) →
    bit (crosses_at (slice_get log t) q p) ≤ bit (crosses_at (slice_get (log ++ e ∷ []) t) q p)
crosses_still log e t q p = elim (cases_lt t (length log)) [
  | inl lt ↦ omega (arith, ap (λ x. bit (crosses_at x q p)) (got_before log (e ∷ []) t lt))
  | inr ge ↦ omega (arith, ap (λ x. bit (crosses_at x q p)) (get_past log t ge))
]

pub made_still : (log : List Event) (e : Event) (x : WordPart) →
    bit (is_wire_made log x) ≤ bit (is_wire_made (log ++ e ∷ []) x)
made_still log e ticket = omega arith
made_still log e live_word = omega arith
made_still log e (port n) = omega arith
made_still log e (field x s) = omega arith
made_still log e (wire j) = omega arith
made_still log e (between t q p) = crosses_still log e t q p
made_still log e left = omega arith
made_still log e right = omega arith
made_still log e entry = omega arith
made_still log e past = omega arith

entries_more : (z : Parts) (log : List Event) (e : Event) →
    entries_of z (log ++ e ∷ []) ≡ entries_of z log ++ entry_of z e ∷ []
entries_more z [] e = refl
entries_more z (x ∷ log) e = ap (λ l. entry_of z x ∷ l) (entries_more z log e)

-- M is a net whose nodes are those after the step of x and y, which the event names.
module _ (p : Plan) (s : Table) (k : Kept p s) (id : ℕ) (v : View)
    (here : get_elem? s.views id ≡ some v) (w : ℕ) (ready : IsLookedUp v w) (low : slice_index s.words 0 < p.parts.fuel)
    (M : NamedNet NodeName) (x y : NodeName) (kf kg : Kind) (i j : ℕ) (faces : Faces k.net x y kf i kg j)
    (f_is : (event_in v).f ≡ node_ref kf i (place_of p.parts x))
    (g_is : (event_in v).g ≡ node_ref kg j (place_of p.parts y))
    (nodes : (u : NodeName) (m : Kind) (c : ℕ) →
    HasNode M u m c ↔ NodeOf k.net (λ place. Born (slice_index s.words 0) place) x y kf i kg
    (action_of (event_in v).rule j) u m c)
    (journal : JournalKeeps p (k.log ++ event_in v ∷ []) M) where
  abbrev z : Parts
  z = p.parts

  abbrev t : ℕ
  t = slice_index s.words 0

  abbrev e : Event
  e = event_in v

  abbrev a : ℕ → ℕ
  a = words.a p s k id v here w ready low

  abbrev b : ℕ → ℕ
  b = words.b p s k id v here w ready low

  abbrev s' : Table
  s' = words.table_after s id v

  drawn_is : length k.log ≡ t
  drawn_is = words.drawn_is p s k id v here w ready low

  seen : IsView s v
  seen = (id, here)

  viewed : (P : View → Type 0) → P (ticketed v t) → ((u : View) → IsView s u → P u) → (u : View) → IsView s' u → P u
  viewed = words.viewed p s k id v here w ready low

  -- the words of the block that are to be written are fields and the two nodes
  own_word : (n j : ℕ) → j < 10 → n ≡ block z t + j → IsOwn (part_of_word z n)
  own_word n j lt q = elim (cases_lt j 2) [
    | inl small ↦ subst IsOwn (sym (ap (part_of_word z) q ∙ part_entry z t j low small)) tt
    | inr big ↦
        let c = (j - 2) / 2 in
        let at : n ≡ place_of z (Born t c) + (j - 2) % 2 = omega (arith, q) in
        subst IsOwn (sym (ap (part_of_word z) at
        ∙ part_field z (Born t c) ((j - 2) % 2) (low, omega arith) (omega arith))) tt
  ]

  -- a word of the ticket's block is in the block of the seat's own ticket
  in_own : (n : ℕ) → block z t ≤ n → n < block z t + 22 → IsInOwnBlock z (ticketed v t) n
  in_own n le lt = (
    t,
    entry_of v.parts e,
    in_right (t, entry_of v.parts e) v.made ((t, entry_of v.parts e) ∷ []) (inl refl),
    (le, lt),
  )

  abbrev Owns : View → Type 0
  Owns u = (n y' : ℕ) → IsIn (n, y') u.due → (y' ≢ 0) × IsOwn (part_of_word z n) × IsInOwnBlock z u n

  owns_new : Owns (ticketed v t)
  owns_new n y' h =
      let at = to_write_from (block z t) (block_words z e t) n y'
      (subst (λ ds. IsIn (n, y') ds) (words.due_is p s k id v here w ready low) h) in
      let lt = at.1 in
      let q = at.2 in
      (at.4, own_word n at.0 at.1 at.2, in_own n (omega arith) (omega arith))

  abbrev Links : View → Type 0
  Links u = (l : Link) → IsIn l u.pending → IsInOwnBlock z u l.cell

  links_new : Links (ticketed v t)
  links_new l i =
      let h = cells.new_cell p s k id v here w ready low l i in
      let lt = h.1 in
      let c = h.2 in
      in_own l.cell (omega arith) (omega arith)

  total_same : (g : View → ℕ) → g (ticketed v t) ≡ g v → total g s'.views ≡ total g s.views
  total_same g q = omega (arith, q, total_set g s.views id v (ticketed v t) here)

  made : (h : ℕ → Entry → ℕ) → total (λ (u : View). pairs h u.made) s'.views ≡ weighed_by_place h 0
      (entries_of z (k.log ++ e ∷ []))
  made h =
      let x : Entry = entry_of v.parts e in
      let same : h t x ≡ h t (entry_of z e) = ap (λ parts. h t (entry_of parts e))
      (words.parts_are p s k id v here w ready low) in
      let long : 0 + length (entries_of z k.log) ≡ t = omega (arith, entries_length z k.log, drawn_is) in
      omega (
        arith,
        k.seats.made h,
        total_set (λ (u : View). pairs h u.made) s.views id v (ticketed v t) here,
        pairs_append h v.made ((t, x) ∷ []),
        same,
        ap (weighed_by_place h 0) (entries_more z k.log e),
        numbered_more h 0 (entries_of z k.log) (entry_of z e),
        ap (λ n. h n (entry_of z e)) long,
      )

  dead : (u : ℕ) → deaths u s'.views ≤ bit (is_made z (k.log ++ e ∷ []) u)
  dead u = omega (
    arith,
    k.seats.dead u,
    total_same (λ (v : View). times_in u v.dead) refl,
    made_still k.log e (part_of_word z u),
  )

  due_fields : (u : View) (n y' : ℕ) (q : NodeName) (c : ℕ) → IsView s' u → IsIn (n, y') u.due →
      part_of_word z n ≡ field q c → IsLinkedField z M u.pending q c
  due_fields = fields.due_fields_after p s k id v here w ready low M x y kf kg i j faces f_is g_is nodes

  pub seats_after : SeatsKeep p s' (k.log ++ e ∷ []) M
  seats_after = record {
    all = total_same (λ (u : View). u.holds) refl ∙ k.seats.all;
    calm = omega (arith, words.ticket_word p s k id v here w ready low, low);
    over = λ u is o. absurd (viewed (λ u. u.over ≡ true → ⊥)
        (λ o. let bad : false ≡ true = sym ready.under ∙ o in cc)
        (λ u is o. omega (arith, low, (k.seats.over u is o).0)) u is o);
    plans = viewed (λ u. 0 < u.holds → KnowsPlan p u) (k.seats.plans v seen) k.seats.plans;
    spent = viewed (λ u. u.holds ≡ 0 → IsSpentView u) (λ q. absurd (omega (arith, ready.held, q))) k.seats.spent;
    taken = λ u n y' is. viewed (λ u. (n y' : ℕ) → IsIn (n, y') u.taken →
        (part_of_word z n ≡ left) × (y' ≢ 0))
        (λ n y' h. absurd (subst (λ l. IsIn (n, y') l)
        (words.taken_is p s k id v here w ready low) h)) (λ u o n y'. k.seats.taken u n y' o) u is n y';
    due = λ u n y' is. viewed Owns owns_new (λ u o n y'. k.seats.due u n y' o) u is n y';
    links = λ u l is. viewed Links links_new (λ u o l. k.seats.links u l o) u is l;
    due_fields = due_fields;
    made = made;
    dead = dead;
  }
