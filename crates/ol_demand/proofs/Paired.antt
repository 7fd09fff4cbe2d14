-- The two nodes of an active pair of a graph.
use Rattle.std.proofs.Common.{◌≡◌, ◌≢◌, ℕ, ◌<◌, length, inl, inr, ◌⊎◌, sym, subst}
use Rattle.ol_net.specs.declared.parts.Rule.{Rule}
use Rattle.ol_net.specs.Graph.{Graph}
use Rattle.ol_net.specs.Nets.{NamedNet, slot, Linked, IsNet}
use Rattle.ol_net.specs.Numbered.{net_of}
use Rattle.ol_net.specs.Pairs.{IsActive, IsInActive}
use Rattle.ol_rules.proofs.FreshPairs.{linked_sym}
use Rattle.ol_rules.proofs.Waiting.{active_below}
use Rattle.ol_rules.specs.UnderWay.{IsPair}

pub linked_turned : (N : NamedNet ℕ) (x y : ℕ) → Linked N (slot x 0) (slot y 0) → Linked N (slot y 0) (slot x 0)
linked_turned N x y l = linked_sym N (slot x 0) (slot y 0) l

module _ (N : NamedNet ℕ) (is_net : IsNet N) (x y : ℕ) (r : Rule) (p : IsPair N x y r) where
  -- either of the two acts on the other
  pub acts : IsActive N x y r ⊎ IsActive N y x r
  acts = go p.0
    where
      other : (z : ℕ) → Linked N (slot x 0) (slot z 0) → z ≡ y
      other z l = let e = is_net.one_link (slot x 0) (slot z 0) (slot y 0) l p.1 in cc

      go : IsInActive N x r → IsActive N x y r ⊎ IsActive N y x r
      go (z, inl a) = inl (subst (λ z. IsActive N x z r) (other z a.faces.linked) a)
      go (z, inr a) = inr (subst (λ z. IsActive N z x r) (other z (linked_turned N z x a.faces.linked)) a)

  pub turned : IsPair N y x r
  turned = (go acts, linked_turned N x y p.1)
    where
      go : IsActive N x y r ⊎ IsActive N y x r → IsInActive N y r
      go (inl a) = (x, inr a)
      go (inr a) = (x, inl a)

  pub apart : x ≢ y
  apart e = is_net.apart (slot x 0) (subst (λ z. Linked N (slot x 0) (slot z 0)) (sym e) p.1)

pub both_below : (g : Graph) → IsNet (net_of g) → (x y : ℕ) (r : Rule) → IsPair (net_of g) x y r →
    (x < length g.nodes) × (y < length g.nodes)
both_below g is_net x y r p = let t = turned (net_of g) is_net x y r p in
    (active_below g x r p.0, active_below g y r t.0)
