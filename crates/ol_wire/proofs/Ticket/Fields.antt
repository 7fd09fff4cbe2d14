-- The fields that the seat of a ticket has to write: each is that of a born node whose reference is
-- an end of one of the ticket's links. The nodes
-- whose fields another seat has to write aren't rewritten.
-- Used in Seats.
use Rattle.std.proofs.Common.{◌≡◌, ◌≢◌, ℕ, suc, ◌*◌, ◌+◌, ◌-◌, ◌/◌, ◌%◌, ◌<◌, ◌≤◌, ◌↔◌, ◌⊎◌, if◌then◌else◌, nat_lt}
use Rattle.std.proofs.Common.{lt-ltb, inl, inr, false, List, [], ◌∷◌, slice_index, sym, refl, ap, ◌∙◌, subst, arith}
use Rattle.std.proofs.lemmas.Bool.{cases_lt}
use Rattle.std.proofs.lemmas.Bool.Decides.{nat_tests}
use mathlib.Core.Option.{some}
use lib.ListN.{get_elem?}
use Rattle.ol_law_edges.specs.Edges.{IsIn}
use Rattle.ol_net.specs.declared.parts.Kind.{Kind}
use Rattle.ol_net.specs.Parts.{arity}
use Rattle.ol_net.specs.Nets.{NamedNet, HasNode, Faces}
use Rattle.ol_rules.specs.declared.journal.NodeName.{NodeName}
use Rattle.ol_rules.specs.declared.journal.NodeName.TheVariants.{Born}
use Rattle.ol_rules.specs.Rewriting.{is_meeting, index_after, action_of, NodeOf}
use Rattle.ol_rules.specs.Rewriting as rewriting
use Rattle.ol_rules.proofs.Lists.{in_each}
use Rattle.ol_wire.specs.declared.layout.Parts.{Parts}
use Rattle.ol_wire.specs.declared.plan.Plan.{Plan}
use Rattle.ol_wire.specs.declared.view.Link.{Link}
use Rattle.ol_wire.specs.declared.view.View.{View}
use Rattle.ol_wire.specs.References.{kind_in, index_in, node_ref, wire_ref}
use Rattle.ol_wire.specs.Layout.{field, entry, part_of_word, block, place_of, born_wire}
use Rattle.ol_wire.specs.Events.{Event}
use Rattle.ol_wire.specs.Edges.{links_in}
use Rattle.ol_wire.specs.Blocks.{copies_of_f, copies_of_g, born_field, block_words}
use Rattle.ol_wire.specs.LinkLists.{born_ref, joins_in, link_of, links_of}
use Rattle.ol_wire.specs.Plays.{event_in}
use Rattle.ol_wire.specs.StepPlays.{IsLookedUp, ticketed}
use Rattle.ol_wire.specs.Rule.{Table, IsView, Kept, IsLinkedField}
use Rattle.ol_wire.proofs.InWords.Claimed.{not_pending}
use Rattle.ol_wire.proofs.InWords.Places.{part_entry, part_field}
use Rattle.ol_wire.proofs.InWords.References.{kind_of_ref, index_of_ref}
use Rattle.ol_wire.proofs.Ticket.Lists.{to_write_from}
use Rattle.ol_wire.proofs.Ticket.Refs.{ref_same, event_of_pair}
use Rattle.ol_wire.proofs.Ticket.Words as words
use Rattle.ol_wire.proofs.Links.New.{field_told, none_of}
use Rattle.ol_wire.proofs.Ticket.Edges.{block_field}

-- the ends of a link of a list are an edge
link_edge : (l : Link) (ls : List Link) → IsIn l ls → IsIn (l.one, l.two) (links_in ls)
link_edge l [] h = h
link_edge l (x ∷ ls) (inl q) = inl (ap (λ (l : Link). (l.one, l.two)) q)
link_edge l (x ∷ ls) (inr h) = inr (link_edge l ls h)

-- in a crossing the reference of each born node is the first end of a link
module _ (z : Parts) (e : Event) (t : ℕ) (a b : ℕ → ℕ) (crosses : is_meeting e.rule ≡ false) where
  copies_f : copies_of_f e ≡ arity (kind_in e.g)
  copies_f = ap (λ m. if m then 0 else arity (kind_in e.g)) crosses

  joins_are : joins_in e ≡ arity (kind_in e.g) + arity (kind_in e.f)
  joins_are = ap (λ m. if m then arity (kind_in e.f) else (if m then 0 else arity (kind_in e.g)) +
      (if m then 0 else arity (kind_in e.f))) crosses

  first_end : (n : ℕ) → n < joins_in e → (d : ℕ) × IsIn (born_ref z e t n, d) (links_in (links_of z e t a b))
  first_end n lt =
      let l = link_of z e t a b n in
      let i : IsIn (l.one, l.two) (links_in (links_of z e t a b)) = link_edge l (links_of z e t a b)
      (in_each l (joins_in e) (λ j. link_of z e t a b j ∷ []) n lt (inl refl)) in
      let q : l.one ≡ born_ref z e t n = ap (λ m. if m then a n else born_ref z e t n) crosses in
      (l.two, subst (λ x. IsIn (x, l.two) (links_in (links_of z e t a b))) q i)

  copy_of_f : (n : ℕ) → n < arity (kind_in e.g) →
      (d : ℕ) × IsIn (node_ref (kind_in e.f) (index_in e.f) (place_of z (Born t n)), d) (links_in (links_of z e t a b))
  copy_of_f n lt =
      let r = first_end n (omega (arith, joins_are, lt)) in
      let q : born_ref z e t n ≡ node_ref (kind_in e.f) (index_in e.f) (place_of z (Born t n)) = ap
      (λ m. if m then node_ref (kind_in e.f) (index_in e.f)
      (place_of z (Born t n)) else node_ref (kind_in e.g) (index_after e.rule (index_in e.g))
      (place_of z (Born t n))) (lt-ltb n (copies_of_f e) (omega (arith, copies_f, lt))) in
      (r.0, subst (λ x. IsIn (x, r.0) (links_in (links_of z e t a b))) q r.1)

  copy_of_g : (n : ℕ) → n < arity (kind_in e.f) →
      (d : ℕ) × IsIn (
        node_ref (kind_in e.g) (index_after e.rule (index_in e.g))
            (place_of z (Born t (arity (kind_in e.g) + n))),
        d,
      ) (links_in (links_of z e t a b))
  copy_of_g n lt =
      let m = arity (kind_in e.g) + n in
      let r = first_end m (omega (arith, joins_are, lt)) in
      let o : nat_lt m (copies_of_f e) ≡ false = let c = copies_f in grind (arith, nat_tests) in
      let q : born_ref z e t m ≡ node_ref (kind_in e.g) (index_after e.rule (index_in e.g))
      (place_of z (Born t m)) = ap (λ x. if x then node_ref (kind_in e.f) (index_in e.f)
      (place_of z (Born t m)) else node_ref (kind_in e.g) (index_after e.rule (index_in e.g))
      (place_of z (Born t m))) o in
      (r.0, subst (λ x. IsIn (x, r.0) (links_in (links_of z e t a b))) q r.1)

-- an edge from an end that is written in another way
from_same : (r q : ℕ) (es : List (ℕ × ℕ)) → r ≡ q → (d : ℕ) × IsIn (r, d) es → (d : ℕ) × IsIn (q, d) es
from_same r q es same h = (h.0, subst (λ r. IsIn (r, h.0) es) same h.1)

field_same : (x y : NodeName) (a b : ℕ) → field x a ≡ field y b → (x ≡ y) × (a ≡ b)
field_same x y a b e = (cc, cc)

-- M is a net whose nodes are those after the step of x and y, which the event names.
module _ (p : Plan) (s : Table) (k : Kept p s) (id : ℕ) (v : View)
    (here : get_elem? s.views id ≡ some v) (w : ℕ) (ready : IsLookedUp v w) (low : slice_index s.words 0 < p.parts.fuel)
    (M : NamedNet NodeName) (x y : NodeName) (kf kg : Kind) (i j : ℕ) (faces : Faces k.net x y kf i kg j)
    (f_is : (event_in v).f ≡ node_ref kf i (place_of p.parts x))
    (g_is : (event_in v).g ≡ node_ref kg j (place_of p.parts y))
    (nodes : (u : NodeName) (m : Kind) (c : ℕ) →
    HasNode M u m c ↔ NodeOf k.net (λ place. Born (slice_index s.words 0) place) x y kf i kg
    (action_of (event_in v).rule j) u m c) where
  abbrev z : Parts
  z = p.parts

  abbrev t : ℕ
  t = slice_index s.words 0

  abbrev e : Event
  e = event_in v

  abbrev a : ℕ → ℕ
  a = words.a p s k id v here w ready low

  abbrev b : ℕ → ℕ
  b = words.b p s k id v here w ready low

  abbrev s' : Table
  s' = words.table_after s id v

  abbrev ticket_links : List Link
  ticket_links = links_of z e t a b

  small_index : (u : NodeName) (m : Kind) (c : ℕ) → HasNode k.net u m c → c < 16777216
  small_index u m c h = omega (
    arith,
    k.journal.indexes u m c h,
    words.drawn_is p s k id v here w ready low,
    low,
    k.plan.small.fuel,
  )

  f_kind : kind_in e.f ≡ kf
  f_kind = ap kind_in f_is ∙ kind_of_ref kf i (place_of z x)

  g_kind : kind_in e.g ≡ kg
  g_kind = ap kind_in g_is ∙ kind_of_ref kg j (place_of z y)

  f_index : index_in e.f ≡ i
  f_index = ap index_in f_is ∙ index_of_ref kf i (place_of z x) (small_index x kf i faces.first)

  g_index : index_in e.g ≡ j
  g_index = ap index_in g_is ∙ index_of_ref kg j (place_of z y) (small_index y kg j faces.second)

  -- a field that the event fills is that of a copy of f or of one of g
  field_born : (m c : ℕ) → born_field z e t m c ≢ 0 → IsLinkedField z M ticket_links (Born t m) c
  field_born m c some_word = go (field_told (copies_of_f e) (copies_of_g e) m c
      (wire_ref (born_wire z t m c)) (wire_ref (born_wire z t c (m - copies_of_f e))) some_word)
    where
      acts : is_meeting e.rule ≡ false → action_of e.rule j ≡ rewriting.crossing (index_after e.rule j)
      acts cross = ap (λ q. if q then rewriting.meeting else rewriting.crossing (index_after e.rule j)) cross

      go : ((m < copies_of_f e) × (c < copies_of_g e) × (born_field z e t m c ≡ wire_ref (born_wire z t m c)))
          ⊎ ((copies_of_f e ≤ m) × (m < copies_of_f e + copies_of_g e) × (c < copies_of_f e)
          × (born_field z e t m c ≡ wire_ref (born_wire z t c (m - copies_of_f e)))) →
          IsLinkedField z M ticket_links (Born t m) c
      go (inl h) =
          let cross = none_of (is_meeting e.rule) (arity (kind_in e.g)) m h.0 in
          let few : m < arity kg = omega (
            arith,
            h.0,
            ap (λ q. if q then 0 else arity (kind_in e.g)) cross,
            ap arity g_kind,
          ) in
          let slot : c < arity kf = omega (
            arith,
            h.1,
            ap (λ q. if q then 0 else arity (kind_in e.f)) cross,
            ap arity f_kind,
          ) in
          let edge = from_same (node_ref (kind_in e.f) (index_in e.f) (place_of z (Born t m)))
          (node_ref kf i (place_of z (Born t m))) (links_in ticket_links)
          (ref_same (kind_in e.f) kf (index_in e.f) i (place_of z (Born t m))
          (place_of z (Born t m)) f_kind f_index refl)
          (copy_of_f z e t a b cross m (omega (arith, few, ap arity g_kind))) in (
            kf,
            i,
            (nodes (Born t m) kf i).1 (rewriting.of_f (index_after e.rule j)
                (acts cross) few),
            slot,
            edge.0,
            edge.1,
          )
      go (inr h) =
          let cross = none_of (is_meeting e.rule) (arity (kind_in e.g)) c h.2 in
          let copies : copies_of_f e ≡ arity kg = ap
          (λ q. if q then 0 else arity (kind_in e.g)) cross ∙ ap arity g_kind in
          let more : copies_of_g e ≡ arity kf = ap (λ q. if q then 0 else arity (kind_in e.f)) cross
          ∙ ap arity f_kind in
          let o : ℕ = m - arity kg in
          let at : arity kg + o ≡ m = omega (arith, h.0, copies) in
          let few : o < arity kf = omega (arith, h.0, h.1, copies, more) in
          let place : place_of z (Born t (arity (kind_in e.g) + o)) ≡ place_of z (Born t m) = ap
          (λ n. place_of z (Born t n)) (ap (λ q. arity q + o) g_kind ∙ at) in
          let edge = from_same (node_ref (kind_in e.g) (index_after e.rule (index_in e.g))
          (place_of z (Born t (arity (kind_in e.g) + o))))
          (node_ref kg (index_after e.rule j) (place_of z (Born t m))) (links_in ticket_links)
          (ref_same (kind_in e.g) kg (index_after e.rule (index_in e.g)) (index_after e.rule j)
          (place_of z (Born t (arity (kind_in e.g) + o))) (place_of z (Born t m)) g_kind
          (ap (index_after e.rule) g_index) place)
          (copy_of_g z e t a b cross o (omega (arith, few, ap arity f_kind))) in
          let has : HasNode M (Born t m) kg (index_after e.rule j) = subst
          (λ n. HasNode M (Born t n) kg (index_after e.rule j)) at
          ((nodes (Born t (arity kg + o)) kg (index_after e.rule j)).1
          (rewriting.of_g (index_after e.rule j) (acts cross) few)) in
          (kg, index_after e.rule j, has, omega (arith, h.2, copies), edge.0, edge.1)

  abbrev Fields : View → Type 0
  Fields u = (n y' : ℕ) (q : NodeName) (c : ℕ) → IsIn (n, y') u.due → part_of_word z n ≡ field q c →
      IsLinkedField z M u.pending q c

  fields_new : Fields (ticketed v t)
  fields_new n y' q c at is =
      let h = to_write_from (block z t) (block_words z e t) n y'
      (subst (λ ds. IsIn (n, y') ds) (words.due_is p s k id v here w ready low) at) in
      subst (λ ls. IsLinkedField z M ls q c) (sym (words.pending_is p s k id v here w ready low))
      (of h.0 h.1 h.2 (λ o. h.4 (h.3 ∙ o)))
    where
      of : (l : ℕ) → l < 10 → n ≡ block z t + l → slice_index (block_words z e t) l ≢ 0 →
          IsLinkedField z M ticket_links q c
      of l lt there some_word = elim (cases_lt l 2) [
        | inl small ↦ let bad : entry ≡ field q c = sym
            (ap (part_of_word z) there ∙ part_entry z t l low small) ∙ is in absurd (cc)
        | inr big ↦
            let m = (l - 2) / 2 in
            let r = (l - 2) % 2 in
            let place : n ≡ place_of z (Born t m) + r = omega (arith, there) in
            let word : 2 + 2 * m + r ≡ l = omega arith in
            let name = field_same (Born t m) q r c
            (sym (ap (part_of_word z) place ∙ part_field z (Born t m) r (low, omega arith) (omega arith)) ∙ is) in
            let born = field_born m r (λ o. some_word
            (ap (slice_index (block_words z e t)) (sym word)
            ∙ block_field z e t m r (omega arith) (omega arith) ∙ o)) in
            subst (λ d. IsLinkedField z M ticket_links q d) name.1
            (subst (λ u. IsLinkedField z M ticket_links u r) name.0 born)
      ]

  -- the words of the cell are the two nodes
  in_cell : ((slice_index k.full w ≡ e.f) ⊎ (slice_index k.full (suc w) ≡ e.f))
      × ((slice_index k.full w ≡ e.g) ⊎ (slice_index k.full (suc w) ≡ e.g))
  in_cell = event_of_pair (λ r. (slice_index k.full w ≡ r)
      ⊎ (slice_index k.full (suc w) ≡ r)) v.last.0 v.last.1
      (inl (words.left_full p s k id v here w ready low)) (inr (words.right_full p s k id v here w ready low))

  -- a node whose reference is an end of another view's link isn't one of the two
  apart : (u : View) → IsView s u → (q r : NodeName) (m n : Kind) (c d : ℕ) (g : ℕ) →
      HasNode k.net q m c → HasNode k.net r n d → g ≡ node_ref n d (place_of z r) →
      (slice_index k.full w ≡ g) ⊎ (slice_index k.full (suc w) ≡ g)
      → (l : ℕ) → IsIn (node_ref m c (place_of z q), l) (links_in u.pending) → q ≢ r
  apart u is q r m n c d g has has' named held l linked same =
      let one = k.journal.is_net.one_node r m n c d (subst (λ q. HasNode k.net q m c) same has) has' in
      let ref : g ≡ node_ref m c (place_of z q) = named
      ∙ ref_same n m d c (place_of z r) (place_of z q) (sym one.0) (sym one.1) (ap (place_of z) (sym same)) in
      not_pending p s k w (words.is_left_word p s k id v here w ready low)
      (λ o. words.left_some p s k id v here w ready low (sym (words.left_full p s k id v here w ready low) ∙ o))
      q m c has (subst (λ g. (slice_index k.full w ≡ g) ⊎ (slice_index k.full (suc w) ≡ g)) ref held) u l is linked

  fields_old : (u : View) → IsView s u → Fields u
  fields_old u is n y' q c at part =
      let h = k.seats.due_fields u n y' q c is at part in
      let not_f = apart u is q x h.0 kf h.1 i e.f h.2 faces.first f_is in_cell.0 h.4 h.5 in
      let not_g = apart u is q y h.0 kg h.1 j e.g h.2 faces.second g_is in_cell.1 h.4 h.5 in
      (h.0, h.1, (nodes q h.0 h.1).1 (rewriting.left h.2 not_f not_g), h.3, h.4, h.5)

  pub due_fields_after : (u : View) (n y' : ℕ) (q : NodeName) (c : ℕ) → IsView s' u →
      IsIn (n, y') u.due → part_of_word z n ≡ field q c → IsLinkedField z M u.pending q c
  due_fields_after u n y' q c is = words.viewed p s k id v here w ready low Fields fields_new fields_old u is n y' q c
