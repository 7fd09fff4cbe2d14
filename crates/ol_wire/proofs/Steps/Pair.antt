-- What a look finds: references of nodes, of wires and of free ports, by words of the table; and
-- that a pair in hand is active.
-- Used in Credit.Owed, Credit.Steps, Allowed and Return.
use Rattle.std.proofs.Common.{◌≡◌, ◌≢◌, ℕ, zero, suc, ◌+◌, ◌%◌, ◌<◌, ◌⊎◌, true, Some, List, get_or}
use Rattle.std.proofs.Common.{sym, refl, ap, ◌∙◌, subst, inl, inr, arith}
use Rattle.std.proofs.lemmas.Bool.{cases_eq, and_parts}
use mathlib.Core.Bool.{false≢true}
use Rattle.ol_law_edges.specs.Edges.{IsIn}
use Rattle.ol_net.specs.declared.parts.Kind.{Kind}
use Rattle.ol_net.specs.declared.parts.Rule.{Rule}
use Rattle.ol_net.specs.Nets.{NamedPort, slot, HasNode, Linked}
use Rattle.ol_net.specs.Parts.{arity}
use Rattle.ol_net.specs.Rules.{rule_of}
use Rattle.ol_rules.specs.declared.journal.NodeName.{NodeName}
use Rattle.ol_net.specs.Pairs.{HasActive}
use Rattle.ol_wire.specs.declared.layout.Parts.{Parts}
use Rattle.ol_wire.specs.declared.plan.Plan.{Plan}
use Rattle.ol_wire.specs.declared.view.View.{View}
use Rattle.ol_wire.specs.References.{node_ref, slot_ref, kind_in, index_in, place_in, IsWireRef, IsRef}
use Rattle.ol_wire.specs.Layout.{WordPart, ticket, live_word, port, field, wire, between, left}
use Rattle.ol_wire.specs.Layout.{right, entry, past, part_of_word, place_of, port_word, table_size}
use Rattle.ol_wire.specs.Events.{Event, rule_between}
use Rattle.ol_wire.specs.Edges.{is_reached, is_made, is_wire_made, edges_in, edges_of, pending_in}
use Rattle.ol_wire.specs.Stands.{IsEnd, of_port, principal, auxiliary, IsWireEnd}
use Rattle.ol_wire.specs.Plays.{event_in}
use Rattle.ol_wire.specs.StepPlays.{IsNodeOf, IsRefOf, IsLookedUp}
use Rattle.ol_wire.specs.Rule.{Table, IsView, Kept}
use Rattle.ol_wire.proofs.InWords.References.{kind_of_ref, index_of_ref, place_of_ref}
use Rattle.ol_wire.proofs.InWords.References.{place_of_wire, node_sort, slot_sort}
use Rattle.ol_wire.proofs.InWords.Places.{place_before, is_wire, is_between, part_field}
use Rattle.ol_wire.proofs.InWords.Held.{Holds, owner, word_full, held_full}
use Rattle.ol_wire.proofs.InWords.Claimed.{IsNodeAt, IsCellPair, cell_pair, node_of, is_placed, ends_second, field_full}
use Rattle.ol_wire.proofs.InWords.Claimed.{field_within, right_written, own_edge}
use Rattle.ol_wire.proofs.InWords.EdgeList.{edge_there, live_there}
use Rattle.ol_law_edges.proofs.Lists.{in_left}
use Rattle.ol_rules.proofs.Born.{at_most_two}
use Rattle.ol_wire.proofs.Ticket.Event.{event_sides}

-- a wire that has been made is a word of the table
made_within : (z : Parts) (log : List Event) (w : ℕ) → is_made z log w ≡ true → (0 < w) × (w < table_size z)
made_within z log w made = of (part_of_word z w) refl made
  where
    of : (a : WordPart) → part_of_word z w ≡ a → is_wire_made log a ≡ true → (0 < w) × (w < table_size z)
    of (wire j) e m = let h = is_wire z w j e in (omega (arith, h), omega (arith, h))
    of (between t q r) e m = let h = is_between z w t q r e in (omega (arith, h), omega (arith, h))
    of ticket e m = absurd (false≢true m)
    of live_word e m = absurd (false≢true m)
    of (port n) e m = absurd (false≢true m)
    of (field x n) e m = absurd (false≢true m)
    of left e m = absurd (false≢true m)
    of right e m = absurd (false≢true m)
    of entry e m = absurd (false≢true m)
    of past e m = absurd (false≢true m)

module _ (p : Plan) (s : Table) (k : Kept p s) where
  abbrev z : Parts
  z = p.parts

  pub small_index : (x : NodeName) (m : Kind) (i : ℕ) → HasNode k.net x m i → i < 16777216
  small_index x m i h = omega (arith, k.journal.indexes x m i h, k.tickets.few, k.plan.small.fuel)

  pub node_of_ref : (r : ℕ) → IsNodeAt z k.net r → IsNodeOf z r
  node_of_ref r n =
      let small = small_index n.x n.k n.i n.has in
      let place : ℕ = place_of z n.x in
      let within = place_before z n.x z.fuel (is_placed p s k n.x n.k n.i n.has) in
      let sort : kind_in r ≡ n.k = ap kind_in n.is ∙ kind_of_ref n.k n.i place in
      let index : index_in r ≡ n.i = ap index_in n.is ∙ index_of_ref n.k n.i place small in
      let at : place_in r ≡ place = ap place_in n.is ∙ place_of_ref n.k n.i place small in
      let whole : r ≡ node_ref (kind_in r) (index_in r) (place_in r) = n.is
      ∙ sym (ap (λ q. node_ref q (index_in r) (place_in r)) sort
      ∙ ap (λ q. node_ref n.k q (place_in r)) index ∙ ap (node_ref n.k n.i) at) in (
        ap (λ q. q % 4) n.is ∙ node_sort n.k n.i place,
        whole,
        omega (arith, index, k.journal.indexes n.x n.k n.i n.has, k.tickets.few),
        omega (arith, at, within),
        omega (arith, at, within),
      )

  -- the ticket word stands for itself
  pub ticket_stands : get_or k.full 0 0 ≡ get_or s.words 0 0
  ticket_stands = elim (cases_eq (get_or s.words 0 0) 0) [
    | inl e ↦ elim (cases_eq (get_or k.full 0 0) 0) [
      | inl f ↦ f ∙ sym e
      | inr n ↦ owned (owner p s k 0 (omega arith) n)
    ]
    | inr n ↦ word_full p s k 0 (omega arith) n
  ]
    where
      owned : (get_or s.words 0 0 ≡ get_or k.full 0 0)
          ⊎ ((v : View) × IsView s v × Holds v 0 (get_or k.full 0 0)) → get_or k.full 0 0 ≡ get_or s.words 0 0
      owned (inl e) = sym e
      owned (inr (v, is, inl due)) = absurd (k.seats.due v 0 (get_or k.full 0 0) is due).1
      owned (inr (v, is, inr taken)) = let e : ticket ≡ left = (k.seats.taken v 0
          (get_or k.full 0 0) is taken).0 in absurd (cc)

  -- a word that is due isn't the ticket word, nor the live word
  pub due_past : (v : View) (i x : ℕ) → IsView s v → IsIn (i, x) v.due → 1 < i
  due_past v zero x is m = absurd (k.seats.due v zero x is m).1
  due_past v (suc zero) x is m = absurd (k.seats.due v (suc zero) x is m).1
  due_past v (suc (suc i)) x is m = omega arith

  pub full_of_claimed : (v : View) (w x : ℕ) → IsView s v → IsIn (w, x) v.taken →
      (part_of_word z w ≡ left) × (get_or k.full w 0 ≡ x) × (get_or k.full w 0 ≢ 0)
  full_of_claimed v w x is m =
      let h = k.seats.taken v w x is m in
      let e = held_full p s k v w x is (inr m) in
      (h.0, e, (λ q. h.1 (sym e ∙ q)))

  -- what the field of a node of the net refers to
  pub ref_of_field : (x : NodeName) (m : Kind) (i c : ℕ) → HasNode k.net x m i → c < arity m →
      IsRefOf z (get_or k.full (place_of z x + c) 0)
  ref_of_field x m i c h lt = of_sort (k.words.refs place (omega (arith, before)) some_word).0
    where
      place : ℕ
      place = place_of z x + c

      y : ℕ
      y = get_or k.full place 0

      two : c < 2
      two = omega (arith, lt, at_most_two m)

      some_word : y ≢ 0
      some_word = field_full p s k x m i c h lt

      before : suc z.free < place_of z x
      before = (place_before z x z.fuel (is_placed p s k x m i h)).0

      all : List (ℕ × ℕ)
      all = edges_of z k.net k.log k.full s.views

      edge : IsIn (slot_ref place, y) all
      edge = in_left _ (edges_in z k.net (is_reached z k.log s.views) k.full (table_size z)) (pending_in s.views)
          (edge_there z k.net (is_reached z k.log s.views) k.full (table_size z) place _
          (field_within p s k x m i c h two)
          (own_edge k.net _ (part_of_word z place) x c place y (get_or k.full (suc place) 0)
          (part_field z x c (is_placed p s k x m i h) two) (live_there k.net x m i h) some_word))

      of_end : (q : NamedPort NodeName) (e : ℕ) → IsEnd z k.net q e → e ≡ y → IsWireRef y → IsRefOf z y
      of_end q e (of_port {n = n} low) same sort =
          let at : place_in y ≡ port_word n = ap place_in (sym same) ∙ place_of_wire (port_word n) in
          let ports : n < z.free = omega (arith, low, k.journal.ports) in
          inr (sort, omega (arith, at), omega (arith, at, ports))
      of_end q e (principal {x = x'} m' i' h') same sort = absurd
          (omega (arith, same, sort, node_sort m' i' (place_of z x')))
      of_end q e (auxiliary {x = x'} {s = c'} m' i' h' lt') same sort = absurd
          (omega (arith, same, sort, slot_sort (place_of z x' + c')))

      of_wire : IsWireRef y → ((q : NamedPort NodeName) × IsEnd z k.net q y)
          ⊎ IsWireEnd (is_reached z k.log s.views) y → IsRefOf z y
      of_wire sort (inl t) = of_end t.0 y t.1 refl sort
      of_wire sort (inr t) =
          let at : place_in y ≡ t.0 = ap place_in t.2 ∙ place_of_wire t.0 in
          let h = made_within z k.log t.0 (and_parts (is_made z k.log t.0) _ t.1).0 in
          inr (sort, omega (arith, at, h), omega (arith, at, h))

      of_sort : IsRef y → IsRefOf z y
      of_sort (inl sort) = inl (node_of_ref y (node_of p s k y sort (ends_second y (slot_ref place) all edge)))
      of_sort (inr sort) = of_wire sort (k.stands.others y (omega (arith, ends_second y (slot_ref place) all edge)))

  -- what the view knows of the right word of the cell that it has claimed
  pub right_of_claimed : (v : View) (w x y : ℕ) → IsView s v → IsIn (w, x) v.taken →
      IsIn (suc w, y) v.known → get_or k.full (suc w) 0 ≡ y
  right_of_claimed v w x y is m known =
      let h = full_of_claimed v w x is m in
      sym (right_written p s k w h.0 h.2) ∙ (k.words.known v (suc w) y is known).0

  pub fits_pair : (a b : ℕ) (f : IsNodeAt z k.net a) (g : IsNodeAt z k.net b) (r : Rule) →
      Linked k.net (slot f.x 0) (slot g.x 0) → rule_between a b ≡ Some r → HasActive k.net
  fits_pair a b f g r link rule =
      let fk : kind_in a ≡ f.k = ap kind_in f.is ∙ kind_of_ref f.k f.i (place_of z f.x) in
      let gk : kind_in b ≡ g.k = ap kind_in g.is ∙ kind_of_ref g.k g.i (place_of z g.x) in
      let fi : index_in a ≡ f.i = ap index_in f.is
      ∙ index_of_ref f.k f.i (place_of z f.x) (small_index f.x f.k f.i f.has) in
      let gi : index_in b ≡ g.i = ap index_in g.is
      ∙ index_of_ref g.k g.i (place_of z g.x) (small_index g.x g.k g.i g.has) in
      let e : rule_between a b ≡ rule_of f.k f.i g.k g.i = ap
      (λ q. rule_of q (index_in a) (kind_in b) (index_in b)) fk
      ∙ ap (λ q. rule_of f.k q (kind_in b) (index_in b)) fi
      ∙ ap (λ q. rule_of f.k f.i q (index_in b)) gk ∙ ap (rule_of f.k f.i g.k) gi in (
        f.x,
        g.x,
        r,
        record {
          k = f.k;
          i = f.i;
          l = g.k;
          j = g.i;
          faces = record { first = f.has; second = g.has; linked = link };
          fits = sym e ∙ rule;
        },
      )

  pub turned : (q r : NamedPort NodeName) → Linked k.net q r → Linked k.net r q
  turned q r (inl i) = inr i
  turned q r (inr i) = inl i

  -- a pair in hand that has a rule is an active pair of the net
  pub pair_active : (v : View) (w : ℕ) → IsView s v → IsLookedUp v w → HasActive k.net
  pair_active v w is up = of (event_sides v.last.0 v.last.1)
    where
      here : IsIn {X = ℕ × ℕ} (w, v.last.0) v.taken
      here = subst (λ (l : List (ℕ × ℕ)). IsIn {X = ℕ × ℕ} (w, v.last.0) l) (sym up.taken) (inl refl)

      cell : (part_of_word z w ≡ left) × (get_or k.full w 0 ≡ v.last.0) × (get_or k.full w 0 ≢ 0)
      cell = full_of_claimed v w v.last.0 is here

      other : get_or k.full (suc w) 0 ≡ v.last.1
      other = right_of_claimed v w v.last.0 v.last.1 is here up.right

      pair : IsCellPair p s k w
      pair = cell_pair p s k w cell.0 cell.2

      of : (((event_in v).f ≡ v.last.0) × ((event_in v).g ≡ v.last.1))
          ⊎ (((event_in v).f ≡ v.last.1) × ((event_in v).g ≡ v.last.0)) → HasActive k.net
      of (inl t) = fits_pair (get_or k.full w 0) (get_or k.full (suc w) 0) pair.f pair.g (event_in v).rule pair.linked
          (ap (λ a. rule_between a (get_or k.full (suc w) 0)) (cell.1 ∙ sym t.0)
          ∙ ap (rule_between (event_in v).f) (other ∙ sym t.1) ∙ up.rule)
      of (inr t) = fits_pair (get_or k.full (suc w) 0) (get_or k.full w 0) pair.g pair.f
          (event_in v).rule (turned (slot pair.f.x 0) (slot pair.g.x 0) pair.linked)
          (ap (λ a. rule_between a (get_or k.full w 0)) (other ∙ sym t.0)
          ∙ ap (rule_between (event_in v).f) (cell.1 ∙ sym t.1) ∙ up.rule)
