-- Where either of two nodes may act, the joins are the same, each written from its other end.
use Rattle.std.proofs.Common.{◌≡◌, ℕ, suc, ◌<◌, true, Some, inl, inr, refl, sym, ◌∙◌, subst, arith}
use Rattle.ol_net.specs.declared.parts.Kind.{Kind}
use Rattle.ol_net.specs.declared.parts.Rule.{Rule}
use Rattle.ol_net.specs.Parts.{arity}
use Rattle.ol_net.specs.Rules.{rule_of}
use Rattle.ol_net.specs.Nets.{NamedPort, slot}
use Rattle.ol_rules.specs.Rewriting.{Action, meeting, crossing, is_meeting, action_of, JoinOf, meet}
use Rattle.ol_rules.specs.Rewriting.{at_f, at_g, between}
use Rattle.ol_rules.proofs.BothWays.{BothWays, both_ways, IsPlain}

module _ {A : Type 0} (f g : A) (k l : Kind) (a a' : Action) (born born' : ℕ → A) (plain : IsPlain a a' k l) where
  -- where they cross, neither has an auxiliary port
  no_ports : (n : ℕ) → a ≡ crossing n → (arity k ≡ 0) × (arity l ≡ 0)
  no_ports n e = go plain
    where
      go : IsPlain a a' k l → (arity k ≡ 0) × (arity l ≡ 0)
      go (inl h) = absurd (let q : meeting ≡ crossing n = sym h.0 ∙ e in cc)
      go (inr h) = h

  pub turn_join : (u v : NamedPort A) → JoinOf born f g k l a u v → JoinOf born' g f l k a' v u
  turn_join u v (meet {s = s} e b) = go plain
    where
      go : IsPlain a a' k l → JoinOf born' g f l k a' (slot g (suc s)) (slot f (suc s))
      go (inl h) = meet h.1 (subst (λ n. s < n) h.2 b)
      go (inr h) = let z = h.0 in absurd (omega arith)
  turn_join u v (at_f n e b) = let z = (no_ports n e).0 in absurd (omega arith)
  turn_join u v (at_g n e b) = let z = (no_ports n e).1 in absurd (omega arith)
  turn_join u v (between n e b b') = let z = (no_ports n e).0 in absurd (omega arith)

pub plain_of : (k l : Kind) (i j : ℕ) (r s : Rule) → rule_of k i l j ≡ Some r →
    rule_of l j k i ≡ Some s → IsPlain (action_of r j) (action_of s i) k l
plain_of k l i j r s e e' = go (both_ways k l i j r s e e')
  where
    acts : (r : Rule) (n : ℕ) → is_meeting r ≡ true → action_of r n ≡ meeting
    acts r n e = rw e refl

    go : BothWays k l r s → IsPlain (action_of r j) (action_of s i) k l
    go b = elim b.plain [
      | inl h ↦ inl (acts r j h.0, acts s i (subst (λ r. is_meeting r ≡ true) b.one_rule h.0), h.1)
      | inr h ↦ inr h
    ]
