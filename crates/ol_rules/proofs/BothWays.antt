-- Where two nodes have a rule whichever of them acts, it is one rule, and both ways leave one net.
use Rattle.std.proofs.Common.{◌≡◌, ℕ, suc, ◌<◌, Bool, true, false, if◌then◌else◌, nat_eq, nat_lt, eqb-true, ltb-true}
use Rattle.std.proofs.Common.{eq-eqb, Some, None, ◌⊎◌, inl, inr, refl, sym, ap, ◌∙◌, subst, arith}
use Rattle.ol_law_edges.specs.Edges.{Joined, here, on, back, Edge, Contracted}
use Rattle.ol_law_edges.proofs.Joining.{joined_map}
use Rattle.ol_net.specs.declared.parts.Kind.{Kind}
use Rattle.ol_net.specs.declared.parts.Kind.TheVariants as kind
use Rattle.ol_net.specs.declared.parts.Rule.{Rule}
use Rattle.ol_net.specs.declared.parts.Rule.TheVariants as rule
use Rattle.ol_net.specs.Parts.{arity}
use Rattle.ol_net.specs.Rules.{met, crossed, by_index, rule_of}
use Rattle.ol_net.specs.Nets.{NamedPort, slot, NamedNet, Linked, IsPrincipalOf, IsSlotOf}
use Rattle.ol_rules.specs.Rewriting.{Action, meeting, crossing, is_meeting, action_of, JoinOf, meet}
use Rattle.ol_rules.specs.Rewriting.{at_f, at_g, between, NodeOf, left, of_f, of_g, Rewrites}

-- a rule for both orders
pub record BothWays (k l : Kind) (r s : Rule) : Type 0 where
  pub one_rule : r ≡ s
  pub plain : ((is_meeting r ≡ true) × (arity k ≡ arity l)) ⊎ ((arity k ≡ 0) × (arity l ≡ 0))

met_both : (k l : Kind) (r s : Rule) → met k l ≡ Some r → met l k ≡ Some s → BothWays k l r s
met_both kind.App kind.Lam r s e e' = let a : rule.Beta ≡ r = cc in let b : rule.Beta ≡ s = cc in
    record { one_rule = sym a ∙ b; plain = inl (ap is_meeting (sym a), refl) }
met_both kind.Lam kind.App r s e e' = let a : rule.Beta ≡ r = cc in let b : rule.Beta ≡ s = cc in
    record { one_rule = sym a ∙ b; plain = inl (ap is_meeting (sym a), refl) }
met_both kind.Fan kind.Fan r s e e' = let a : rule.Fan ≡ r = cc in let b : rule.Fan ≡ s = cc in
    record { one_rule = sym a ∙ b; plain = inl (ap is_meeting (sym a), refl) }
met_both kind.Croissant kind.Croissant r s e e' = let a : rule.Croissant ≡ r = cc in
    let b : rule.Croissant ≡ s = cc in record { one_rule = sym a ∙ b; plain = inl (ap is_meeting (sym a), refl) }
met_both kind.Bracket kind.Bracket r s e e' = let a : rule.Bracket ≡ r = cc in
    let b : rule.Bracket ≡ s = cc in record { one_rule = sym a ∙ b; plain = inl (ap is_meeting (sym a), refl) }
met_both _ _ r s e e' = absurd (none e)
  where
    none : {r : Rule} → None ≡ Some r → ⊥
    none e = cc

by_index_both : (k l : Kind) (i j : ℕ) (r s : Rule) → by_index k i l j ≡ Some r →
    by_index l j k i ≡ Some s → BothWays k l r s
by_index_both k l i j r s e e' = go (nat_eq i j) (nat_eq j i) refl refl e e'
  where
    none : (r : Rule) → None ≡ Some r → ⊥
    none r e = cc

    below : (b c : Bool) → nat_lt i j ≡ b → nat_lt j i ≡ c →
        (if b then crossed k else None) ≡ Some r → (if c then crossed l else None) ≡ Some s → BothWays k l r s
    below true true h h' e e' = let a = ltb-true i j h in let b = ltb-true j i h' in absurd (omega arith)
    below true false h h' e e' = absurd (none s e')
    below false c h h' e e' = absurd (none r e)

    equal : nat_eq i j ≡ true → nat_eq j i ≡ false → ⊥
    equal h h' = let a = eqb-true i j h in let b = eq-eqb j i (sym a) in cc

    equal' : nat_eq i j ≡ false → nat_eq j i ≡ true → ⊥
    equal' h h' = let a = eqb-true j i h' in let b = eq-eqb i j (sym a) in cc

    go : (b c : Bool) → nat_eq i j ≡ b → nat_eq j i ≡ c →
        (if b then met k l else (if nat_lt i j then crossed k else None)) ≡ Some r →
        (if c then met l k else (if nat_lt j i then crossed l else None)) ≡ Some s → BothWays k l r s
    go true true h h' e e' = met_both k l r s e e'
    go true false h h' e e' = absurd (equal h h')
    go false true h h' e e' = absurd (equal' h h')
    go false false h h' e e' = below (nat_lt i j) (nat_lt j i) refl refl e e'

pub both_ways : (k l : Kind) (i j : ℕ) (r s : Rule) → rule_of k i l j ≡ Some r →
    rule_of l j k i ≡ Some s → BothWays k l r s
both_ways kind.Eraser kind.Eraser i j r s e e' = let a : rule.Erase ≡ r = cc in
    let b : rule.Erase ≡ s = cc in record { one_rule = sym a ∙ b; plain = inr (refl, refl) }
both_ways kind.Eraser kind.Lam i j r s e e' = absurd (cc)
both_ways kind.Eraser kind.App i j r s e e' = absurd (cc)
both_ways kind.Eraser kind.Fan i j r s e e' = absurd (cc)
both_ways kind.Eraser kind.Croissant i j r s e e' = absurd (cc)
both_ways kind.Eraser kind.Bracket i j r s e e' = absurd (cc)
both_ways kind.Lam kind.Eraser i j r s e e' = absurd (cc)
both_ways kind.App kind.Eraser i j r s e e' = absurd (cc)
both_ways kind.Fan kind.Eraser i j r s e e' = absurd (cc)
both_ways kind.Croissant kind.Eraser i j r s e e' = absurd (cc)
both_ways kind.Bracket kind.Eraser i j r s e e' = absurd (cc)
both_ways k l i j r s e e' = by_index_both k l i j r s e e'

-- the step joins slots of one number, or neither node has an auxiliary port
abbrev pub IsPlain : Action → Action → Kind → Kind → Type 0
IsPlain a a' k l = ((a ≡ meeting) × (a' ≡ meeting) × (arity k ≡ arity l)) ⊎ ((arity k ≡ 0) × (arity l ≡ 0))

module _ {A : Type 0} (N : NamedNet A) (f g : A) (k l : Kind) (a a' : Action) (born born' : ℕ → A)
    (plain : IsPlain a a' k l) where
  turn_principal : (p : NamedPort A) → IsPrincipalOf g f p → IsPrincipalOf f g p
  turn_principal p (inl e) = inr e
  turn_principal p (inr e) = inl e

  turn_slot : (p : NamedPort A) → IsSlotOf g f p → IsSlotOf f g p
  turn_slot p (s, inl e) = (s, inr e)
  turn_slot p (s, inr e) = (s, inl e)

  -- where they cross, neither has an auxiliary port
  no_ports : (n : ℕ) → a ≡ crossing n → (arity k ≡ 0) × (arity l ≡ 0)
  no_ports n e = go plain
    where
      go : IsPlain a a' k l → (arity k ≡ 0) × (arity l ≡ 0)
      go (inl h) = absurd (let q : meeting ≡ crossing n = sym h.0 ∙ e in cc)
      go (inr h) = h

  turn_join : (u v : NamedPort A) → JoinOf born f g k l a u v → JoinOf born' g f l k a' v u
  turn_join u v (meet {s = s} e b) = go plain
    where
      go : IsPlain a a' k l → JoinOf born' g f l k a' (slot g (suc s)) (slot f (suc s))
      go (inl h) = meet h.1 (subst (λ n. s < n) h.2 b)
      go (inr h) = let z = h.0 in absurd (omega arith)
  turn_join u v (at_f n e b) = let z = (no_ports n e).0 in absurd (omega arith)
  turn_join u v (at_g n e b) = let z = (no_ports n e).1 in absurd (omega arith)
  turn_join u v (between n e b b') = let z = (no_ports n e).0 in absurd (omega arith)

  turn_node : (i j : ℕ) (x : A) (m : Kind) (n : ℕ) → NodeOf N born f g k i l a x m n → NodeOf N born' g f l j k a' x m n
  turn_node i j x m n (left h y z) = left h z y
  turn_node i j x m n (of_f u e b) = let z = (no_ports u e).1 in absurd (omega arith)
  turn_node i j x m n (of_g u e b) = let z = (no_ports u e).0 in absurd (omega arith)

  turn_links : (p q : NamedPort A) → Contracted
      (Edge (Linked N) (IsPrincipalOf f g) (JoinOf born f g k l a)) (IsSlotOf f g) p q →
      Contracted (Edge (Linked N) (IsPrincipalOf g f) (JoinOf born' g f l k a')) (IsSlotOf g f) p q
  turn_links p q c = record {
    first = λ s. c.first (turn_slot p s);
    second = λ s. c.second (turn_slot q s);
    apart = c.apart;
    joined = joined_map edge c.joined;
  }
    where
      edge : (u v : NamedPort A) → Edge (Linked N) (IsPrincipalOf f g) (JoinOf born f g k l a) u v →
          Joined (Edge (Linked N) (IsPrincipalOf g f) (JoinOf born' g f l k a')) u v
      edge u v (inl h) = on here (inl (h.0, (λ z. h.1 (turn_principal u z)), (λ z. h.2 (turn_principal v z))))
      edge u v (inr h) = back here (inr (turn_join u v h))

turned_plain : (a a' : Action) (k l : Kind) → IsPlain a a' k l → IsPlain a' a l k
turned_plain a a' k l (inl h) = inl (h.1, h.0, sym h.2)
turned_plain a a' k l (inr h) = inr (h.1, h.0)

-- both ways leave one net
turned : {A : Type 0} (N : NamedNet A) (f g : A) (k l : Kind) (i j : ℕ) (a a' : Action)
    (born : ℕ → A) → IsPlain a a' k l → (M : NamedNet A) → Rewrites born N f g k i l a M →
    Rewrites born N g f l j k a' M
turned N f g k l i j a a' born plain M r = record {
  free_ports = r.free_ports;
  nodes = λ x m n. (
    (λ h. turn_node N f g k l a a' born born plain i j x m n ((r.nodes x m n).0 h)),
    (λ h. (r.nodes x m n).1 (turn_node N g f l k a' a born born (turned_plain a a' k l plain) j i x m n h)),
  );
  links = λ p q. (
    (λ h. turn_links N f g k l a a' born born plain p q ((r.links p q).0 h)),
    (λ h. (r.links p q).1 (turn_links N g f l k a' a born born (turned_plain a a' k l plain) p q h)),
  );
}

-- a step of two nodes that have a rule both ways is one with the other acting
pub step_turned : {A : Type 0} (N : NamedNet A) (f g : A) (k l : Kind) (i j : ℕ) (r s : Rule)
    (born : ℕ → A) → rule_of k i l j ≡ Some r → rule_of l j k i ≡ Some s → (M : NamedNet A) →
    Rewrites born N f g k i l (action_of r j) M → Rewrites born N g f l j k (action_of s i) M
step_turned N f g k l i j r s born e e' M h = turned N f g k l i j (action_of r j)
    (action_of s i) born (go (both_ways k l i j r s e e')) M h
  where
    acts : (r : Rule) (n : ℕ) → is_meeting r ≡ true → action_of r n ≡ meeting
    acts r n e = rw e refl

    go : BothWays k l r s → IsPlain (action_of r j) (action_of s i) k l
    go b = elim b.plain [
      | inl h ↦ inl (acts r j h.0, acts s i (subst (λ r. is_meeting r ≡ true) b.one_rule h.0), h.1)
      | inr h ↦ inr h
    ]
