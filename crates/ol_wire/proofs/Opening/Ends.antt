-- The ends of a start net, by the ports of its graph.
-- Used in Keeps, Refs, Sites and Stands.
use Rattle.std.proofs.Common.{◌≡◌, ℕ, zero, suc, ◌+◌, ◌<◌, ◌≤◌, true, List, [], ◌∷◌, Some, refl}
use Rattle.std.proofs.Common.{sym, ap, ◌∙◌, subst, arith, inl, inr, eq-eqb}
use Rattle.std.specs.Prelude.{◌↔◌}
use Rattle.ol_law_edges.specs.Edges.{IsIn}
use Rattle.ol_net.specs.declared.parts.Kind.{Kind}
use Rattle.ol_net.specs.declared.parts.NodeId.{NodeId}
use Rattle.ol_net.specs.declared.parts.Port.{Port}
use Rattle.ol_net.specs.declared.parts.Port.TheVariants.{Free, Of}
use Rattle.ol_net.specs.Graph.{Graph, IsTabled, kind_at, has_port, partner_of}
use Rattle.ol_net.specs.Nets.{NamedPort, Linked, port_under, net_under}
use Rattle.ol_net.specs.Nets as nets
use Rattle.ol_net.specs.Numbered.{numbered_port, net_of}
use Rattle.ol_net.specs.Indexes.{top_index_of}
use Rattle.ol_net.proofs.Numbered.{has_node, is_port, linked, linked_back, numbered_port-injective}
use Rattle.ol_rules.specs.declared.journal.NodeName.{NodeName}
use Rattle.ol_rules.specs.declared.journal.NodeName.TheVariants.{Init, Born}
use Rattle.ol_rules.proofs.Renaming.{node_to, node_from, link_to, link_back}
use Rattle.ol_wire.specs.declared.layout.Parts.{Parts}
use Rattle.ol_wire.specs.References.{node_ref, wire_ref, slot_ref}
use Rattle.ol_wire.specs.Layout.{port_word, start_node, place_of}
use Rattle.ol_wire.specs.Edges.{same_name, is_listed, is_live}
use Rattle.ol_wire.specs.Stands.{IsEnd, of_port, principal, auxiliary}
use Rattle.ol_wire.specs.Laid.{ref_of, node_word}
use Rattle.ol_wire.proofs.InWords.References.{node_same, wire_same, slot_same, node_not_wire}
use Rattle.ol_wire.proofs.InWords.References.{node_not_slot, wire_not_slot}
use Rattle.ol_wire.proofs.Opening.Ports.{of_inside}
use Rattle.std.proofs.lemmas.Bool.{or_right}
use Rattle.ol_net.proofs.Indexes.{top_is_top}

abbrev pub named : Port → NamedPort NodeName
named p = port_under Init (numbered_port p)

abbrev pub end_of : Graph → Parts → Port → ℕ
end_of net z (Free n) = wire_ref (port_word n)
end_of net z (Of n zero) = node_word net z n.0
end_of net z (Of n (suc s)) = slot_ref (start_node z n.0 + s)

pub record Live (net : Graph) (z : Parts) (n : ℕ) : Type 0 where
  pub kind : Kind
  pub index : ℕ
  pub is : kind_at net.nodes n ≡ Some (kind, index)
  pub word : node_word net z n ≡ node_ref kind index (start_node z n)
  pub low : index < 16777216

same_start : (z : Parts) (n m : ℕ) → start_node z n ≡ start_node z m → n ≡ m
same_start z n m e = omega (arith, e)

same_of : (n m : NodeId) (s : ℕ) → n.0 ≡ m.0 → Of n s ≡ Of m s
same_of n m s e = ap (λ (k : ℕ). Of (record { 0 = k }) s) e

name_holds : (x : NodeName) → same_name x x ≡ true
name_holds (Init n) = eq-eqb n n refl
name_holds (Born t p) = rw (eq-eqb t t refl, eq-eqb p p refl) refl

pub listed_in : (x : NodeName) (k : Kind) (i : ℕ) (nodes : List (NodeName × Kind × ℕ)) →
    IsIn (x, k, i) nodes → is_listed x nodes ≡ true
listed_in x k i [] h = absurd h
listed_in x k i (n ∷ nodes) (inl e) =
    let q : x ≡ n.0 = ap (λ (w : NodeName × Kind × ℕ). w.0) e in
    let t : same_name x n.0 ≡ true = ap (same_name x) (sym q) ∙ name_holds x in
    rw t refl
listed_in x k i (n ∷ nodes) (inr h) = or_right (same_name x n.0) (is_listed x nodes) (listed_in x k i nodes h)

module _ (net : Graph) (z : Parts) (low : top_index_of net.nodes ≤ 1000000) where
  pub live_of : (n : NodeId) (s : ℕ) → has_port net.free net.nodes (Of n s) ≡ true → Live net z n.0
  live_of n s h =
      let t = (is_port net (Of n s)).1 h in
      let is = (has_node net n.0 t.0 t.1).0 t.2 in
      record {
        kind = t.0;
        index = t.1;
        is = is;
        word = ap (ref_of z n.0) is;
        low = (let b = top_is_top net.nodes n.0 (t.0, t.1) is in omega (arith, b, low));
      }

  pub end_same : (p q : Port) → has_port net.free net.nodes p ≡ true →
      has_port net.free net.nodes q ≡ true → end_of net z p ≡ end_of net z q → p ≡ q
  end_same (Free n) (Free m) a b e = let w = wire_same (port_word n) (port_word m) e in
      let q : n ≡ m = omega (arith, w) in ap Free q
  end_same (Free n) (Of m zero) a b e = let l = live_of m 0 b in
      absurd (node_not_wire l.kind l.index (start_node z m.0) (port_word n) (sym l.word ∙ sym e))
  end_same (Free n) (Of m (suc s)) a b e = absurd (wire_not_slot (port_word n) (start_node z m.0 + s) e)
  end_same (Of n zero) (Free m) a b e = let l = live_of n 0 a in
      absurd (node_not_wire l.kind l.index (start_node z n.0) (port_word m) (sym l.word ∙ e))
  end_same (Of n zero) (Of m zero) a b e =
      let l = live_of n 0 a in
      let r = live_of m 0 b in
      same_of n m 0 (same_start z n.0 m.0 (node_same l.kind r.kind l.index r.index
      (start_node z n.0) (start_node z m.0) l.low r.low (sym l.word ∙ e ∙ r.word)).2)
  end_same (Of n zero) (Of m (suc s)) a b e = let l = live_of n 0 a in
      absurd (node_not_slot l.kind l.index (start_node z n.0) (start_node z m.0 + s) (sym l.word ∙ e))
  end_same (Of n (suc s)) (Free m) a b e = absurd (wire_not_slot (port_word m) (start_node z n.0 + s) (sym e))
  end_same (Of n (suc s)) (Of m zero) a b e = let l = live_of m 0 b in
      absurd (node_not_slot l.kind l.index (start_node z m.0) (start_node z n.0 + s) (sym l.word ∙ sym e))
  end_same (Of n (suc s)) (Of m (suc u)) a b e =
      let w = slot_same (start_node z n.0 + s) (start_node z m.0 + u) e in
      let ls = (of_inside net n (suc s) a).1 in
      let lu = (of_inside net m (suc u) b).1 in
      let q : n.0 ≡ m.0 = omega (arith, w, ls, lu) in
      let r : s ≡ u = omega (arith, w, q) in
      same_of n m (suc s) q ∙ ap (λ k. Of m (suc k)) r

  pub end_port : (p : NamedPort NodeName) (e : ℕ) → IsEnd z (net_under Init (net_of net)) p e →
      (q : Port) × (p ≡ named q) × (has_port net.free net.nodes q ≡ true) × (e ≡ end_of net z q)
  end_port p e (of_port {n = n} lt) = (Free n, refl, (is_port net (Free n)).0 lt, refl)
  end_port p e (principal {x = x} k i h) =
      let t = node_from Init (net_of net) x k i h in
      let at : kind_at net.nodes t.0 ≡ Some (k, i) = (has_node net t.0 k i).0 t.1 in (
        Of (record { 0 = t.0 }) 0,
        ap (λ x. nets.slot x 0) t.2,
        (is_port net (Of (record { 0 = t.0 }) 0)).0 (k, i, t.1, omega arith),
        ap (λ x. node_ref k i (place_of z x)) t.2 ∙ sym (ap (ref_of z t.0) at),
      )
  end_port p e (auxiliary {x = x} {s = s} k i h lt) =
      let t = node_from Init (net_of net) x k i h in (
        Of (record { 0 = t.0 }) (suc s),
        ap (λ x. nets.slot x (suc s)) t.2,
        (is_port net (Of (record { 0 = t.0 }) (suc s))).0 (k, i, t.1, omega (arith, lt)),
        ap (λ x. slot_ref (place_of z x + s)) t.2,
      )

  pub port_end : (p : Port) → has_port net.free net.nodes p ≡ true →
      IsEnd z (net_under Init (net_of net)) (named p) (end_of net z p)
  port_end (Free n) h = of_port ((is_port net (Free n)).1 h)
  port_end (Of n zero) h =
      let t = (is_port net (Of n 0)).1 h in
      let at : kind_at net.nodes n.0 ≡ Some (t.0, t.1) = (has_node net n.0 t.0 t.1).0 t.2 in
      subst (λ e. IsEnd z (net_under Init (net_of net)) (nets.slot (Init n.0) 0) e)
      (sym (ap (ref_of z n.0) at)) (principal t.0 t.1 (node_to Init (net_of net) n.0 t.0 t.1 t.2))
  port_end (Of n (suc s)) h =
      let t = (is_port net (Of n (suc s))).1 h in
      auxiliary t.0 t.1 (node_to Init (net_of net) n.0 t.0 t.1 t.2) (omega (arith, t.3))

pub live_start : (net : Graph) (n : ℕ) (k : Kind) (i : ℕ) → kind_at net.nodes n ≡ Some (k, i) →
    is_live (net_under Init (net_of net)) (Init n) ≡ true
live_start net n k i e = listed_in (Init n) k i (net_under Init (net_of net)).nodes
    (node_to Init (net_of net) n k i ((has_node net n k i).1 e))

pub link_named : (net : Graph) (p q : Port) → IsTabled net.free net.nodes net.partners →
    Linked (net_under Init (net_of net)) (named p) (named q) ↔ (partner_of net p ≡ Some q)
link_named net p q tabled = (
  λ h.
      let l = linked_back net (numbered_port p) (numbered_port q) tabled
      (link_back Init (λ x y e. cc) (net_of net) (numbered_port p) (numbered_port q) h) in
      ap (partner_of net) (numbered_port-injective p l.from l.first) ∙ l.partner
      ∙ ap (λ w. Some w) (sym (numbered_port-injective q l.to l.second)),
  λ e. link_to Init (net_of net) (numbered_port p) (numbered_port q) (linked net p q tabled e),
)
