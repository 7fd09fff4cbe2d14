-- Ports at active pairs.
use Rattle.std.proofs.Common.{◌≡◌, ◌≢◌, ℕ, inl, inr, sym, subst}
use Rattle.ol_net.specs.declared.parts.Rule.{Rule}
use Rattle.ol_net.specs.Nets.{NamedNet, NamedPort, free, slot, Linked, IsNet, IsPrincipalOf}
use Rattle.ol_net.specs.Pairs.{IsActive, IsInActive}
use Rattle.ol_rules.proofs.FreshPairs.{linked_sym}
use Rattle.ol_demand.specs.Chains.{IsAtPair, IsAtNoPair}

module _ {A : Type 0} (N : NamedNet A) where
  -- the other end of its link is the other node's principal port
  pub other_of : (p : NamedPort A) (f g : A) (r : Rule) → IsAtPair N p f g r → (y : A) × Linked N p (slot y 0)
  other_of p f g r a = go a.principal
    where
      go : IsPrincipalOf f g p → (y : A) × Linked N p (slot y 0)
      go (inl e) = (g, subst (λ p. Linked N p (slot g 0)) (sym e) a.active.faces.linked)
      go (inr e) = (
        f,
        subst (λ p. Linked N p (slot f 0)) (sym e)
            (linked_sym N (slot f 0) (slot g 0) a.active.faces.linked),
      )

  pub in_active : (x f g : A) (r : Rule) → IsAtPair N (slot x 0) f g r → IsInActive N x r
  in_active x f g r a = go a.principal
    where
      go : IsPrincipalOf f g (slot x 0) → IsInActive N x r
      go (inl e) = let z : x ≡ f = cc in (g, inl (subst (λ f. IsActive N f g r) (sym z) a.active))
      go (inr e) = let z : x ≡ g = cc in (f, inr (subst (λ g. IsActive N f g r) (sym z) a.active))

  pub none_active : (x : A) → ((r : Rule) → IsInActive N x r → ⊥) → IsAtNoPair N (slot x 0)
  none_active x h f g r a = h r (in_active x f g r a)

  module _ (is_net : IsNet N) where
    -- it is linked to no free port and to no auxiliary port
    pub no_free : (p : NamedPort A) (q : ℕ) → Linked N p (free q) → IsAtNoPair N p
    no_free p q l f g r a =
        let t = other_of p f g r a in
        let e = is_net.one_link p (free q) (slot t.0 0) l t.1 in
        absurd (cc)

    pub no_auxiliary : (p : NamedPort A) (y : A) (s : ℕ) → s ≢ 0 → Linked N p (slot y s) → IsAtNoPair N p
    no_auxiliary p y s n l f g r a =
        let t = other_of p f g r a in
        let e = is_net.one_link p (slot y s) (slot t.0 0) l t.1 in
        n (cc)
