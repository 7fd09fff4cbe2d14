-- The ends of the ports of the nets before and after a ticket: a port has one end, an end one port.
-- Used in After, Joins and Moved.
use Rattle.std.proofs.Common.{◌≡◌, ◌≢◌, ℕ, zero, suc, ◌+◌, ◌<◌, ◌≤◌, Bool, false, nat_eq, ◌⊎◌, inl, inr, List, refl}
use Rattle.std.proofs.Common.{sym, ap, ◌∙◌, subst, arith}
use Rattle.std.proofs.lemmas.Bool.{cases_eq}
use Rattle.ol_law_edges.specs.Edges.{Joined, EdgeOf, ends}
use Rattle.ol_law_edges.proofs.Contraction.{ends_in}
use Rattle.ol_law_edges.proofs.Composing.{first_edge}
use Rattle.ol_law_edges.proofs.Joining.{joined_sym}
use Rattle.ol_net.specs.declared.parts.Kind.{Kind}
use Rattle.ol_net.specs.declared.parts.Rule.{Rule}
use Rattle.ol_net.specs.Parts.{arity}
use Rattle.ol_net.specs.Nets.{NamedNet, NamedPort, free, slot, HasNode, Linked, IsPort, IsSlotOf}
use Rattle.ol_rules.specs.declared.journal.NodeName.{NodeName}
use Rattle.ol_rules.specs.declared.journal.NodeName.TheVariants.{Init, Born}
use Rattle.ol_rules.specs.Rewriting.{is_meeting, index_after, action_of, NodeOf, left, of_f, of_g, Rewrites}
use Rattle.ol_rules.proofs.Tests.{nat_test}
use Rattle.ol_wire.specs.declared.layout.Parts.{Parts}
use Rattle.ol_wire.specs.References.{node_ref, wire_ref, slot_ref}
use Rattle.ol_wire.specs.Layout.{port_word, place_of, IsPlaced}
use Rattle.ol_wire.specs.Stands.{IsEnd, of_port, principal, auxiliary, IsWireEnd}
use Rattle.ol_wire.proofs.InWords.References.{node_same, slot_same}
use Rattle.ol_wire.proofs.InWords.Places.{place_same}
use Rattle.ol_wire.proofs.Ticket.Event.{Rewritten}
use Rattle.ol_wire.proofs.InWords.Lists.{index_after_small}
use Rattle.ol_rules.proofs.Born.{at_most_two}
use Rattle.ol_rules.proofs.Actions.{crosses}

placed_later : (z : Parts) (t : ℕ) (u : NodeName) → IsPlaced z t u → IsPlaced z (suc t) u
placed_later z t (Init n) h = h
placed_later z t (Born s q) h = (omega (arith, h.0), h.1)

module _ {z : Parts} {N M : NamedNet NodeName} {x y : NodeName} {k l : Kind} {i j t : ℕ} {r : Rule}
    {a b : ℕ → ℕ} {es fs rest : List (ℕ × ℕ)} {reached reached' : ℕ → Bool}
    (c : Rewritten z N M x y k l i j t r a b es fs rest reached reached') where
  -- the copies of x, and behind them those of y
  abbrev pub IsCopy : ℕ → Kind → ℕ → Type 0
  IsCopy q m n = ((q < arity l) × (m ≡ k) × (n ≡ i))
      ⊎ ((arity l ≤ q) × (q < arity l + arity k) × (m ≡ l) × (n ≡ index_after r j))

  abbrev pub IsBornNode : NodeName → Kind → ℕ → Type 0
  IsBornNode u m n = (q : ℕ) × (u ≡ Born t q) × (is_meeting r ≡ false) × IsCopy q m n

  -- a node of the net before, or one that the ticket makes
  abbrev pub IsKnown : NodeName → Kind → ℕ → Type 0
  IsKnown u m n = HasNode N u m n ⊎ IsBornNode u m n

  -- the end of a port of such a node
  abbrev pub StandsAt : NamedPort NodeName → ℕ → Type 0
  StandsAt (free n) e = (n < z.free) × (e ≡ wire_ref (port_word n))
  StandsAt (slot u zero) e = (m : Kind) × (n : ℕ) × IsKnown u m n × (e ≡ node_ref m n (place_of z u))
  StandsAt (slot u (suc s)) e = (m : Kind) × (n : ℕ) × IsKnown u m n × (s < arity m) × (e ≡ slot_ref (place_of z u + s))

  not_born : (u : NodeName) (m : Kind) (n q : ℕ) → HasNode N u m n → u ≡ Born t q → ⊥
  not_born u m n q h e = let p : IsPlaced z t (Born t q) = subst (IsPlaced z t) e
      (c.names u m n h) in omega (arith, p.0)

  same_copy : (p q : ℕ) (m m' : Kind) (n n' : ℕ) → p ≡ q → IsCopy p m n → IsCopy q m' n' → (m ≡ m') × (n ≡ n')
  same_copy p q m m' n n' e (inl u) (inl v) = (u.1 ∙ sym v.1, u.2 ∙ sym v.2)
  same_copy p q m m' n n' e (inl u) (inr v) = absurd (omega (arith, e, u.0, v.0))
  same_copy p q m m' n n' e (inr u) (inl v) = absurd (omega (arith, e, u.0, v.0))
  same_copy p q m m' n n' e (inr u) (inr v) = (u.2 ∙ sym v.2, u.3 ∙ sym v.3)

  one_known : (u : NodeName) (m m' : Kind) (n n' : ℕ) → IsKnown u m n → IsKnown u m' n' → (m ≡ m') × (n ≡ n')
  one_known u m m' n n' (inl h) (inl h') = c.is_net.one_node u m m' n n' h h'
  one_known u m m' n n' (inl h) (inr w) = absurd (not_born u m n w.0 h w.1)
  one_known u m m' n n' (inr w) (inl h) = absurd (not_born u m' n' w.0 h w.1)
  one_known u m m' n n' (inr w) (inr w') =
      let e : Born t w.0 ≡ Born t w'.0 = sym w.1 ∙ w'.1 in
      let d : w.0 ≡ w'.0 = cc in
      same_copy w.0 w'.0 m m' n n' d w.3 w'.3

  known_placed : (u : NodeName) (m : Kind) (n : ℕ) → IsKnown u m n → IsPlaced z (suc t) u
  known_placed u m n (inl h) = placed_later z t u (c.names u m n h)
  known_placed u m n (inr w) =
      let p : IsPlaced z (suc t) (Born t w.0) = (omega arith, few w.0 w.3) in
      subst (IsPlaced z (suc t)) (sym w.1) p
    where
      few : (q : ℕ) → IsCopy q m n → q < 4
      few q (inl v) = omega (arith, v.0, at_most_two l)
      few q (inr v) = omega (arith, v.1, at_most_two l, at_most_two k)

  known_small : (u : NodeName) (m : Kind) (n : ℕ) → IsKnown u m n → n < 16777216
  known_small u m n (inl h) = omega (arith, c.indexes u m n h)
  known_small u m n (inr w) = go w.3
    where
      go : IsCopy w.0 m n → n < 16777216
      go (inl v) = omega (arith, v.2, c.indexes x k i c.faces.first)
      go (inr v) = omega (arith, v.3, c.indexes y l j c.faces.second, index_after_small r j)

  pub one_end : (p : NamedPort NodeName) (d e : ℕ) → StandsAt p d → StandsAt p e → d ≡ e
  one_end (free n) d e h h' = h.1 ∙ sym h'.1
  one_end (slot u zero) d e (m, n, h, q) (m', n', h', q') =
      let s = one_known u m m' n n' h h' in
      q ∙ ap (λ m. node_ref m n (place_of z u)) s.0 ∙ ap (λ n. node_ref m' n (place_of z u)) s.1 ∙ sym q'
  one_end (slot u (suc s)) d e (m, n, h, lt, q) (m', n', h', lt', q') = q ∙ sym q'

  same_place : (u u' : NodeName) (m m' : Kind) (n n' s s' : ℕ) → IsKnown u m n → IsKnown u' m' n' →
      s < 2 → s' < 2 → place_of z u + s ≡ place_of z u' + s' → (u ≡ u') × (s ≡ s')
  same_place u u' m m' n n' s s' h h' lt lt' e = place_same z u u' s s' (suc t)
      (known_placed u m n h) (known_placed u' m' n' h') lt lt' e

  pub one_port : (p q : NamedPort NodeName) (e : ℕ) → StandsAt p e → StandsAt q e → p ≡ q
  one_port (free n) (free n') e h h' = let d : n ≡ n' = omega (arith, h.1, h'.1) in ap (λ n. free n) d
  one_port (free n) (slot u zero) e h (m, o, w, q) = absurd (omega (arith, h.1, q))
  one_port (free n) (slot u (suc s)) e h (m, o, w, lt, q) = absurd (omega (arith, h.1, q))
  one_port (slot u zero) (free n) e (m, o, w, q) h = absurd (omega (arith, h.1, q))
  one_port (slot u (suc s)) (free n) e (m, o, w, lt, q) h = absurd (omega (arith, h.1, q))
  one_port (slot u zero) (slot u' (suc s)) e (m, o, w, q) (m', o', w', lt, q') = absurd (omega (arith, q, q'))
  one_port (slot u (suc s)) (slot u' zero) e (m, o, w, lt, q) (m', o', w', q') = absurd (omega (arith, q, q'))
  one_port (slot u zero) (slot u' zero) e (m, o, w, q) (m', o', w', q') =
      let p = (node_same m m' o o' (place_of z u) (place_of z u') (known_small u m o w)
      (known_small u' m' o' w') (sym q ∙ q')).2 in
      let d = (same_place u u' m m' o o' 0 0 w w' (omega arith) (omega arith) (omega (arith, p))).0 in
      ap (λ u. slot u 0) d
  one_port (slot u (suc s)) (slot u' (suc s')) e (m, o, w, lt, q) (m', o', w', lt', q') =
      let p = slot_same (place_of z u + s) (place_of z u' + s') (sym q ∙ q') in
      let d = same_place u u' m m' o o' s s' w w' (omega (arith, lt, at_most_two m))
      (omega (arith, lt', at_most_two m')) p in
      ap (λ u. slot u (suc s)) d.0 ∙ ap (λ s. slot u' (suc s)) d.1

  -- no port has the end of a word behind the free ports
  pub no_wire : (p : NamedPort NodeName) (d w : ℕ) → StandsAt p d → d ≡ wire_ref w → suc z.free < w → ⊥
  no_wire (free n) d w h e lt = omega (arith, h.0, h.1, e)
  no_wire (slot u zero) d w (m, n, h, q) e lt = omega (arith, q, e)
  no_wire (slot u (suc s)) d w (m, n, h, s_lt, q) e lt = omega (arith, q, e)

  pub not_wire_before : (p : NamedPort NodeName) (d : ℕ) → StandsAt p d → IsWireEnd reached d → ⊥
  not_wire_before p d h (w, is, e) = no_wire p d w h e (omega (arith, (c.old_wires w is).0))

  pub not_wire_after : (p : NamedPort NodeName) (d : ℕ) → StandsAt p d → IsWireEnd reached' d → ⊥
  not_wire_after p d h (w, is, e) = elim (c.only w is) [
    | inl old ↦ not_wire_before p d h (w, old, e)
    | inr n ↦ no_wire p d w h e (omega (arith, n.4))
  ]

  -- the ports of both nets stand there
  pub stands_before : (p : NamedPort NodeName) (e : ℕ) → IsEnd z N p e → StandsAt p e
  stands_before p e (of_port lt) = (omega (arith, lt, c.ports), refl)
  stands_before p e (principal m n h) = (m, n, inl h, refl)
  stands_before p e (auxiliary m n h lt) = (m, n, inl h, lt, refl)

  -- the step, by the kinds and indexes of the pair
  pub rewrites : Rewrites (λ q. Born t q) N x y k i l (action_of r j) M
  rewrites =
      let s = c.step.active in
      let f = c.is_net.one_node x s.k k s.i i s.faces.first c.faces.first in
      let g = c.is_net.one_node y s.l l s.j j s.faces.second c.faces.second in
      subst (λ j. Rewrites (λ q. Born t q) N x y k i l (action_of r j) M) g.1
      (subst (λ l. Rewrites (λ q. Born t q) N x y k i l (action_of r s.j) M) g.0
      (subst (λ i. Rewrites (λ q. Born t q) N x y k i s.l (action_of r s.j) M) f.1
      (subst (λ k. Rewrites (λ q. Born t q) N x y k s.i s.l (action_of r s.j) M) f.0 c.step.rewrites)))

  abbrev IsNodeAfter : NodeName → Kind → ℕ → Type 0
  IsNodeAfter = NodeOf N (λ q. Born t q) x y k i l (action_of r j)

  known_after : (u : NodeName) (m : Kind) (n : ℕ) → IsNodeAfter u m n → IsKnown u m n
  known_after u m n (left h d d') = inl h
  known_after u m n (of_f {q = q} o e lt) = let s = crosses (is_meeting r) (index_after r j) o e in
      inr (q, refl, s.0, inl (lt, refl, refl))
  known_after u m n (of_g {p = p} o e lt) = let s = crosses (is_meeting r) (index_after r j) o e in
      inr (arity l + p, refl, s.0, inr (omega arith, omega (arith, lt), refl, s.1))

  pub born_not_x : (q : ℕ) → Born t q ≢ x
  born_not_x q e = not_born x k i q c.faces.first (sym e)

  pub born_not_y : (q : ℕ) → Born t q ≢ y
  born_not_y q e = not_born y l j q c.faces.second (sym e)

  gone : (u : NodeName) (m : Kind) (n : ℕ) → IsNodeAfter u m n → (u ≢ x) × (u ≢ y)
  gone u m n (left h d d') = (d, d')
  gone u m n (of_f {q = q} o e lt) = (born_not_x q, born_not_y q)
  gone u m n (of_g {p = p} o e lt) = (born_not_x (arity l + p), born_not_y (arity l + p))

  node_after : (u : NodeName) (m : Kind) (n : ℕ) → HasNode M u m n → IsNodeAfter u m n
  node_after u m n h = (rewrites.nodes u m n).0 h

  pub stands_after : (p : NamedPort NodeName) (e : ℕ) → IsEnd z M p e → StandsAt p e
  stands_after p e (of_port lt) = (omega (arith, lt, c.ports, rewrites.free_ports), refl)
  stands_after p e (principal {x = u} m n h) = (m, n, known_after u m n (node_after u m n h), refl)
  stands_after p e (auxiliary {x = u} m n h lt) = (m, n, known_after u m n (node_after u m n h), lt, refl)

  -- a slot of neither of the two
  pub slot_apart : (u : NodeName) (s : ℕ) → u ≢ x → u ≢ y → IsSlotOf x y (slot u s) → ⊥
  slot_apart u s d d' (n, inl e) = let q : u ≡ x = cc in d q
  slot_apart u s d d' (n, inr e) = let q : u ≡ y = cc in d' q

  pub apart_after : (p : NamedPort NodeName) (e : ℕ) → IsEnd z M p e → IsSlotOf x y p → ⊥
  apart_after p e (of_port {n = n} lt) (s, inl h) = absurd (cc)
  apart_after p e (of_port {n = n} lt) (s, inr h) = absurd (cc)
  apart_after p e (principal {x = u} m n h) s = let d = gone u m n (node_after u m n h) in slot_apart u 0 d.0 d.1 s
  apart_after p e (auxiliary {x = u} {s = o} m n h lt) s = let d = gone u m n
      (node_after u m n h) in slot_apart u (suc o) d.0 d.1 s

  pub x_not_y : x ≢ y
  x_not_y e = c.is_net.apart (slot x 0) (subst (λ u. Linked N (slot x 0) (slot u 0)) (sym e) c.faces.linked)

  -- an end of a port stands before, or at no edge
  pub stood : (p : NamedPort NodeName) (e : ℕ) → StandsAt p e → IsEnd z N p e ⊎ (ends nat_eq e es ≡ 0)
  stood p e h = elim (cases_eq (ends nat_eq e es) 0) [
    | inl none ↦ inr none
    | inr some ↦ inl (go (c.before.others e (omega (arith, some))))
  ]
    where
      go : ((q : NamedPort NodeName) × IsEnd z N q e) ⊎ IsWireEnd reached e → IsEnd z N p e
      go (inl s) = subst (λ q. IsEnd z N q e) (one_port s.0 p e (stands_before s.0 e s.1) h) s.1
      go (inr w) = absurd (not_wire_before p e h w)

  alone : (d e : ℕ) → ends nat_eq d es ≡ 0 → Joined (EdgeOf es) d e → d ≡ e
  alone d e none h = elim (first_edge h) [
    | inl q ↦ q
    | inr a ↦ absurd (omega (arith, none, ends_in nat_eq nat_test d a.0 es a.1))
  ]

  -- what the edges join is linked
  pub met : (p q : NamedPort NodeName) (d e : ℕ) → StandsAt p d → StandsAt q e →
      Joined (EdgeOf es) d e → (p ≡ q) ⊎ Linked N p q
  met p q d e h h' joins = go (stood p d h) (stood q e h') (cases_eq d e)
    where
      same : d ≡ e → p ≡ q
      same o = one_port p q e (subst (StandsAt p) o h) h'

      go : IsEnd z N p d ⊎ (ends nat_eq d es ≡ 0) → IsEnd z N q e ⊎ (ends nat_eq e es ≡ 0) →
          (d ≡ e) ⊎ (d ≢ e) → (p ≡ q) ⊎ Linked N p q
      go f g (inl o) = inl (same o)
      go (inr none) g (inr o) = inl (same (alone d e none joins))
      go f (inr none) (inr o) = inl (same (sym (alone e d none (joined_sym joins))))
      go (inl f) (inl g) (inr o) = inr ((c.before.links p q d e f g).1
          (record { first = not_wire_before p d h; second = not_wire_before q e h'; apart = o; joined = joins }))

  end_of : (p : NamedPort NodeName) → IsPort N p → (e : ℕ) × IsEnd z N p e
  end_of (free n) lt = (wire_ref (port_word n), of_port lt)
  end_of (slot u zero) (m, n, h, le) = (node_ref m n (place_of z u), principal m n h)
  end_of (slot u (suc s)) (m, n, h, le) = (slot_ref (place_of z u + s), auxiliary m n h (omega (arith, le)))

  -- and each linked port has an end
  pub ended : (p q : NamedPort NodeName) → Linked N p q → ((d : ℕ) × StandsAt p d) × ((e : ℕ) × StandsAt q e)
  ended p q h =
      let s = c.is_net.of_ports p q h in
      let f = end_of p s.0 in
      let g = end_of q s.1 in
      ((f.0, stands_before p f.0 f.1), (g.0, stands_before q g.0 g.1))

  pub linked : (p q : NamedPort NodeName) (d e : ℕ) → Linked N p q → StandsAt p d → StandsAt q e →
      Joined (EdgeOf es) d e
  linked p q d e h h' h'' =
      let s = c.is_net.of_ports p q h in
      let f = end_of p s.0 in
      let g = end_of q s.1 in
      let o = (c.before.links p q f.0 g.0 f.1 g.1).0 h in
      subst (λ d. Joined (EdgeOf es) d e) (one_end p f.0 d (stands_before p f.0 f.1) h')
      (subst (λ e. Joined (EdgeOf es) f.0 e) (one_end q g.0 e (stands_before q g.0 g.1) h'') o.joined)
