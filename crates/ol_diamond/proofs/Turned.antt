-- Where either of two nodes may act, nothing is born: so both ways leave one net, whatever the births are named.
use Rattle.std.proofs.Common.{◌≡◌, ℕ, true, Some, ◌⊎◌, inl, inr, refl, sym, ◌∙◌, arith}
use Rattle.ol_law_edges.specs.Edges.{Edge}
use Rattle.ol_law_edges.proofs.Composing.{contracted_map}
use Rattle.ol_net.specs.declared.parts.Kind.{Kind}
use Rattle.ol_net.specs.declared.parts.Rule.{Rule}
use Rattle.ol_net.specs.Parts.{arity}
use Rattle.ol_net.specs.Rules.{rule_of}
use Rattle.ol_net.specs.Nets.{NamedPort, NamedNet, Linked, IsPrincipalOf}
use Rattle.ol_rules.specs.Rewriting.{Action, meeting, crossing, is_meeting, action_of, JoinOf, meet}
use Rattle.ol_rules.specs.Rewriting.{at_f, at_g, between, NodeOf, left, of_f, of_g, Rewrites}
use Rattle.ol_rules.proofs.BothWays.{both_ways, step_turned}

module _ {A : Type 0} (N : NamedNet A) (f g : A) (k l : Kind) (i : ℕ) (a : Action)
    (none : (n : ℕ) → a ≡ crossing n → (arity k ≡ 0) × (arity l ≡ 0)) where
  join : (born born' : ℕ → A) (u v : NamedPort A) → JoinOf born f g k l a u v → JoinOf born' f g k l a u v
  join born born' u v (meet e b) = meet e b
  join born born' u v (at_f n e b) = let z = (none n e).0 in absurd (omega arith)
  join born born' u v (at_g n e b) = let z = (none n e).1 in absurd (omega arith)
  join born born' u v (between n e b b') = let z = (none n e).0 in absurd (omega arith)

  node : (born born' : ℕ → A) (x : A) (m : Kind) (n : ℕ) → NodeOf N born f g k i l a x m n →
      NodeOf N born' f g k i l a x m n
  node born born' x m n (left h y z) = left h y z
  node born born' x m n (of_f u e b) = let z = (none u e).1 in absurd (omega arith)
  node born born' x m n (of_g u e b) = let z = (none u e).0 in absurd (omega arith)

  edge : (born born' : ℕ → A) (u v : NamedPort A) →
      Edge (Linked N) (IsPrincipalOf f g) (JoinOf born f g k l a) u v →
      Edge (Linked N) (IsPrincipalOf f g) (JoinOf born' f g k l a) u v
  edge born born' u v (inl h) = inl h
  edge born born' u v (inr h) = inr (join born born' u v h)

  -- the same step, its births named otherwise
  reborn : (born born' : ℕ → A) (M : NamedNet A) → Rewrites born N f g k i l a M → Rewrites born' N f g k i l a M
  reborn born born' M r = record {
    free_ports = r.free_ports;
    nodes = λ x m n. (
      (λ h. node born born' x m n ((r.nodes x m n).0 h)),
      (λ h. (r.nodes x m n).1 (node born' born x m n h)),
    );
    links = λ p q. (
      (λ h. contracted_map (edge born born') (λ u e s. s) p q ((r.links p q).0 h)),
      (λ h. (r.links p q).1 (contracted_map (edge born' born) (λ u e s. s) p q h)),
    );
  }

pub step_around : {A : Type 0} (N : NamedNet A) (f g : A) (k l : Kind) (i j : ℕ) (r s : Rule)
    (born born' : ℕ → A) → rule_of k i l j ≡ Some r → rule_of l j k i ≡ Some s → (M : NamedNet A) →
    Rewrites born N f g k i l (action_of r j) M → Rewrites born' N g f l j k (action_of s i) M
step_around N f g k l i j r s born born' e e' M h =
    step_turned N f g k l i j r s born' e e' M
    (reborn N f g k l i (action_of r j) (none (both_ways k l i j r s e e').plain) born born' M h)
  where
    acts : is_meeting r ≡ true → action_of r j ≡ meeting
    acts e = rw e refl

    none : ((is_meeting r ≡ true) × (arity k ≡ arity l)) ⊎ ((arity k ≡ 0) × (arity l ≡ 0)) →
        (n : ℕ) → action_of r j ≡ crossing n → (arity k ≡ 0) × (arity l ≡ 0)
    none (inr h) n q = h
    none (inl h) n q = absurd (let bad : meeting ≡ crossing n = sym (acts h.0) ∙ q in cc)
