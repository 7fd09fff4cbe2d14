-- A replacement by the lists of a step is that step.
use Rattle.std.proofs.Common.{◌≡◌, ◌≢◌, ℕ, ◌+◌, Bool, true, false, if◌then◌else◌, Some, ◌⊎◌, inl}
use Rattle.std.proofs.Common.{inr, refl, ap, ◌∙◌, arith, length, length-append}
use Rattle.ol_law_edges.specs.Edges.{Joined, here, on, Edge, Contracted}
use Rattle.ol_law_edges.proofs.Joining.{joined_map}
use Rattle.ol_net.specs.declared.parts.Kind.{Kind}
use Rattle.ol_net.specs.declared.parts.NodeId.{NodeId}
use Rattle.ol_net.specs.declared.parts.Rule.{Rule}
use Rattle.ol_net.specs.Parts.{arity}
use Rattle.ol_net.specs.Rules.{rule_of}
use Rattle.ol_net.specs.Graph.{Graph, IsTabled}
use Rattle.ol_net.proofs.Numbered.{has_node, linked}
use Rattle.ol_net.specs.declared.parts.Port.TheVariants.{Of}
use Rattle.ol_rules.specs.declared.steps.Pair.{Pair}
use Rattle.ol_rules.specs.Actors.{IsItsPair}
use Rattle.ol_net.specs.Nets.{NamedPort, HasNode, Linked, Faces, IsPrincipalOf, IsSlotOf}
use Rattle.ol_net.specs.Pairs.{IsActive}
use Rattle.ol_net.specs.Numbered.{net_of}
use Rattle.ol_net.specs.Replace.{Replaces, JoinsOf, IsBorn}
use Rattle.ol_rules.specs.Rewriting.{Action, meeting, crossing, action_of, index_after, is_meeting}
use Rattle.ol_rules.specs.Rewriting.{JoinOf, NodeOf, left, Rewrites}
use Rattle.ol_rules.specs.Steps.{births, StepsAt}
use Rattle.ol_rules.specs.BornLists.{copies, born_of, joins_of}
use Rattle.ol_rules.proofs.Lists.{length_copies}
use Rattle.ol_rules.proofs.Listed.{listed, of_list, of_births, in_births}

-- the same edges join the same
same_contracted : {V : Type 0} (E J J' : V → V → Type 0) (P G : V → Type 0) →
    ((u v : V) → J u v → J' u v) → (u v : V) → Contracted (Edge E P J) G u v → Contracted (Edge E P J') G u v
same_contracted {V} E J J' P G to u v c = record {
  first = c.first;
  second = c.second;
  apart = c.apart;
  joined = joined_map edge c.joined;
}
  where
    edge : (u v : V) → Edge E P J u v → Joined (Edge E P J') u v
    edge u v (inl h) = on here (inl h)
    edge u v (inr h) = on here (inr (to u v h))

born_count : (r : Rule) (f g : Kind × ℕ) → length (born_of (action_of r g.1) f g) ≡ births r f.0 g.0
born_count r f g = go (is_meeting r) (index_after r g.1)
  where
    go : (b : Bool) (j : ℕ) → length (born_of (if b then meeting else crossing j) f g) ≡
        (if b then 0 else arity g.0 + arity f.0)
    go true j = refl
    go false j =
        let s = length-append (copies (arity g.0) f) (copies (arity f.0) (g.0, j)) in
        let m = length_copies (arity g.0) f in
        let n = length_copies {X = Kind × ℕ} (arity f.0) (g.0, j) in
        omega arith

module _ (old new : Graph) (f g : NodeId) (kf kg : Kind × ℕ) (a : Action)
    (replaced : Replaces old new f g (born_of a kf kg) (joins_of a (arity kf.0) (arity kg.0))) where
  abbrev next : ℕ
  next = length old.nodes

  rewritten : Rewrites (λ place. length old.nodes + place) (net_of old) f.0 g.0 kf.0 kf.1 kg.0 a (net_of new)
  rewritten = record {
    free_ports = replaced.free_ports;
    nodes = λ x m n. (to x m n, from x m n);
    links = λ p q. (to_link p q, from_link p q);
  }
    where
      to : (x : ℕ) (m : Kind) (n : ℕ) → HasNode (net_of new) x m n →
          NodeOf (net_of old) (λ place. length old.nodes + place) f.0 g.0 kf.0 kf.1 kg.0 a x m n
      to x m n h = go ((replaced.nodes x m n).0 h)
        where
          go : (HasNode (net_of old) x m n × (x ≢ f.0) × (x ≢ g.0))
              ⊎ IsBorn next (born_of a kf kg) x m n →
              NodeOf (net_of old) (λ place. length old.nodes + place) f.0 g.0 kf.0 kf.1 kg.0 a x m n
          go (inl (h, u, v)) = left h u v
          go (inr h) = of_births (net_of old) f.0 g.0 next kf.0 kf.1 kg.0 kg.1 a x m n h

      from : (x : ℕ) (m : Kind) (n : ℕ) → NodeOf (net_of old)
          (λ place. length old.nodes + place) f.0 g.0 kf.0 kf.1 kg.0 a x m n → HasNode (net_of new) x m n
      from x m n h = (replaced.nodes x m n).1 (in_births (net_of old) f.0 g.0 next kf.0 kf.1 kg.0 kg.1 a x m n h)

      to_link : (p q : NamedPort ℕ) → Linked (net_of new) p q →
          Contracted (Edge (Linked (net_of old)) (IsPrincipalOf f.0 g.0)
          (JoinOf (λ place. length old.nodes + place) f.0 g.0 kf.0 kg.0 a)) (IsSlotOf f.0 g.0) p q
      to_link p q h = same_contracted (Linked (net_of old))
          (JoinsOf f.0 g.0 next (joins_of a (arity kf.0) (arity kg.0)))
          (JoinOf (λ place. length old.nodes + place) f.0 g.0 kf.0 kg.0 a) (IsPrincipalOf f.0 g.0) (IsSlotOf f.0 g.0)
          (of_list f.0 g.0 next kf.0 kg.0 a) p q ((replaced.links p q).0 h)

      from_link : (p q : NamedPort ℕ) → Contracted
          (Edge (Linked (net_of old)) (IsPrincipalOf f.0 g.0)
          (JoinOf (λ place. length old.nodes + place) f.0 g.0 kf.0 kg.0 a)) (IsSlotOf f.0 g.0) p q →
          Linked (net_of new) p q
      from_link p q c = (replaced.links p q).1
          (same_contracted (Linked (net_of old))
          (JoinOf (λ place. length old.nodes + place) f.0 g.0 kf.0 kg.0 a)
          (JoinsOf f.0 g.0 next (joins_of a (arity kf.0) (arity kg.0))) (IsPrincipalOf f.0 g.0) (IsSlotOf f.0 g.0)
          (listed f.0 g.0 next kf.0 kg.0 a) p q c)

pub steps_at : (old new : Graph) (at : ℕ) (r : Rule) (f g : NodeId) (kf kg : Kind × ℕ) → (at ≡ f.0) ⊎ (at ≡ g.0)
    → Faces (net_of old) f.0 g.0 kf.0 kf.1 kg.0 kg.1 → rule_of kf.0 kf.1 kg.0 kg.1 ≡ Some r
    → Replaces old new f g (born_of (action_of r kg.1) kf kg)
    (joins_of (action_of r kg.1) (arity kf.0) (arity kg.0)) → StepsAt old new at r
steps_at old new at r f g kf kg one faces fits replaced =
    let active : IsActive (net_of old) f.0 g.0 r = record {
      k = kf.0;
      i = kf.1;
      l = kg.0;
      j = kg.1;
      faces = faces;
      fits = fits;
    } in
    record {
      f = f.0;
      g = g.0;
      one_of = one;
      step = record { active = active; rewrites = rewritten old new f g kf kg (action_of r kg.1) replaced };
      numbers = replaced.numbers ∙ ap (λ n. length old.nodes + n) (born_count r kf kg);
    }

-- and so is one by the pair that the code holds
pub steps_from : (old new : Graph) (at : NodeId) (pair : Pair) →
    IsTabled old.free old.nodes old.partners → IsItsPair old at pair
    → Replaces old new pair.f pair.g (born_of (action_of pair.rule pair.of_g.1) pair.of_f pair.of_g)
    (joins_of (action_of pair.rule pair.of_g.1) (arity pair.of_f.0) (arity pair.of_g.0))
    → StepsAt old new at.0 pair.rule
steps_from old new at pair tabled is_pair replaced = steps_at old new at.0 pair.rule pair.f pair.g
    pair.of_f pair.of_g (one is_pair.one_of) faces is_pair.fits replaced
  where
    one : (at ≡ pair.f) ⊎ (at ≡ pair.g) → (at.0 ≡ pair.f.0) ⊎ (at.0 ≡ pair.g.0)
    one (inl e) = inl (ap (λ (n : NodeId). n.0) e)
    one (inr e) = inr (ap (λ (n : NodeId). n.0) e)

    faces : Faces (net_of old) pair.f.0 pair.g.0 pair.of_f.0 pair.of_f.1 pair.of_g.0 pair.of_g.1
    faces = record {
      first = (has_node old pair.f.0 pair.of_f.0 pair.of_f.1).1 is_pair.facing.is_f;
      second = (has_node old pair.g.0 pair.of_g.0 pair.of_g.1).1 is_pair.facing.is_g;
      linked = linked old (Of pair.f 0) (Of pair.g 0) tabled is_pair.facing.facing.1;
    }
