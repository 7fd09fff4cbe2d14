-- Where no active pair is on the way, a levelled net has no virtual redex.
use Rattle.std.proofs.Common.{◌≡◌, ℕ, suc, ◌<◌, List, Option, Some, None, inl, inr, refl, subst}
use Rattle.ol_context.specs.Contexts.{Context, empty, up}
use Rattle.ol_context.specs.Paths.{inward, outward}
use Rattle.ol_demand.specs.Chains.{IsAtNoPair}
use Rattle.ol_law_edges.specs.Edges.{Joined, on, back}
use Rattle.ol_law_levels.proofs.Stuck.{stuck_of_sharing, no_walk_crosses}
use Rattle.ol_law_levels.specs.Levels.{IsLevelled}
use Rattle.ol_net.specs.Nets.{NamedPort, free, slot, NamedNet, HasNode, Linked, IsNet}
use Rattle.ol_net.specs.Pairs.{IsStuck}
use Rattle.ol_net.specs.Parts.{arity}
use Rattle.ol_net.specs.Rules.{rule_of}
use Rattle.ol_net.specs.declared.parts.Kind.{Kind}
use Rattle.ol_net.specs.declared.parts.Kind.TheVariants as kind
use Rattle.ol_net.specs.declared.parts.Rule.{Rule}
use Rattle.ol_rules.proofs.FreshPairs.{linked_sym}
use Rattle.ol_law_optimality.specs.RedexLaws.{NoRedexIsLeft}
use Rattle.ol_law_optimality.specs.Redexes.{Carries, put}
use Rattle.ol_law_optimality.specs.Routes.{Crossing, Row, along, rises, falls}
use Rattle.ol_law_optimality.specs.Seen.{Move, link, node, NoneIsSeen}
use Rattle.ol_law_optimality.proofs.Carrying.{rise_at, fall_at}
use Rattle.ol_law_optimality.proofs.Walking.{quiet_walk}

module _ {A : Type 0} (N : NamedNet A) (is_net : IsNet N) (L : IsLevelled N)
    (On : NamedPort A → Context → Type 0)
    (on_link : (p q : NamedPort A) (c : Context) → On p c → Linked N p q → On q c)
    (on_rise : (x : A) (k : Kind) (i s : ℕ) (c : Context) → HasNode N x k i → s < arity k →
    On (slot x (suc s)) c → On (slot x 0) (up k i s c))
    (quiet : (p : NamedPort A) (c : Context) → On p c → IsAtNoPair N p) where
  facing : (x y : A) (k l : Kind) (i j : ℕ) → HasNode N x k i → HasNode N y l j →
      Linked N (slot x 0) (slot y 0) → (c : Context) → On (slot x 0) c → IsStuck N x y
  facing x y k l i j h h' m c o = record {
    k = k;
    i = i;
    l = l;
    j = j;
    faces = record { first = h; second = h'; linked = m };
    first = none (rule_of k i l j) refl;
    second = none' (rule_of l j k i) refl;
  }
    where
      none : (o : Option Rule) → rule_of k i l j ≡ o → rule_of k i l j ≡ None
      none None e = e
      none (Some r) e = absurd (quiet (slot x 0) c o x y r (record {
        active = record {
          k = k;
          i = i;
          l = l;
          j = j;
          faces = record { first = h; second = h'; linked = m };
          fits = e;
        };
        principal = inl refl;
      }))

      none' : (o : Option Rule) → rule_of l j k i ≡ o → rule_of l j k i ≡ None
      none' None e = e
      none' (Some r) e = absurd (quiet (slot x 0) c o y x r (record {
        active = record {
          k = l;
          i = j;
          l = k;
          j = i;
          faces = record {
            first = h';
            second = h;
            linked = linked_sym N (slot x 0) (slot y 0) m;
          };
          fits = e;
        };
        principal = inr refl;
      }))

  module _ (y : A) (jy : ℕ) (lam : HasNode N y kind.Lam jy) where
    -- after a node was gone up through
    climbs : (x : A) (k : Kind) (i s : ℕ) → HasNode N x k i → s < arity k → (b : Context)
        {p q : NamedPort A} {w : List (Crossing A)} → Row N p w q → p ≡ slot x 0 →
        q ≡ slot y 0 → (d : Context) → Carries N (up k i s b) w d →
        On (slot x 0) (up k i s b) → ⊥
    unfolding facing
    climbs x k i s h n b (along {p = p} {q = q} m) e e' d t o =
        let z = facing x y k kind.Lam i jy h lam (subst (λ p. Linked N p (slot y 0)) e
        (subst (λ q. Linked N p q) e' m)) (up k i s b) o in
        (stuck_of_sharing N L x y z).1
    climbs x k i s h n b (rises {p = p} {x = x'} {s = s'} {w = w} k' i' m h' n' r) e e' d t o =
        let u = rise_at N is_net x' k' i' h' s' w (up k i s b) d t in
        climbs x' k' i' s' h' n' (up k i s b) r refl e' d u.1
        (on_rise x' k' i' s' (up k i s b) h' n' (on_link (slot x 0) (slot x' (suc s')) (up k i s b)
        o
        (subst (λ p. Linked N p (slot x' (suc s'))) e m)))
    climbs x k i s h n b (falls {p = p} {x = x'} {s = s'} {w = w} k' i' m h' n' r) e e' d t o =
        let u = fall_at N is_net x' k' i' h' s' w (up k i s b) d t in
        let z = facing x x' k k' i i' h h' (subst (λ p. Linked N p (slot x' 0)) e m) (up k i s b) o
        in
        no_walk_crosses N L x x' z s s' b (up k i s b) u.1 (inward n refl) (outward n' u.2)

    pub begins : (x : A) (i : ℕ) → HasNode N x kind.App i → {p q : NamedPort A}
        {w : List (Crossing A)} → Row N p w q → p ≡ slot x 0 → q ≡ slot y 0 → (c d : Context) →
        Carries N c w d → On (slot x 0) c → ⊥
    unfolding facing
    begins x i h (along {p = p} {q = q} m) e e' c d t o =
        let z = facing x y kind.App kind.Lam i jy h lam (subst (λ p. Linked N p (slot y 0)) e
        (subst (λ q. Linked N p q) e' m)) c o in
        (stuck_of_sharing N L x y z).0
    begins x i h (rises {p = p} {x = x'} {s = s'} {w = w} k' i' m h' n' r) e e' c d t o =
        let u = rise_at N is_net x' k' i' h' s' w c d t in
        climbs x' k' i' s' h' n' c r refl e' d u.1 (on_rise x' k' i' s' c h' n'
        (on_link (slot x 0) (slot x' (suc s')) c o (subst (λ p. Linked N p (slot x' (suc s'))) e
        m)))
    begins x i h (falls {p = p} {x = x'} {s = s'} {w = w} k' i' m h' n' r) e e' c d t o =
        let z = facing x x' kind.App k' i i' h h' (subst (λ p. Linked N p (slot x' 0)) e m) c o in
        (stuck_of_sharing N L x x' z).0

nothing : Context
nothing n = empty

module _ {A : Type 0} where
  pub no_redex_is_left : NoRedexIsLeft A
  no_redex_is_left N n L done s V =
      let h = V.route in
      begins N n L (λ p c. Unit {0}) (λ p q c o l. tt) (λ x k i s c h b o. tt)
      (λ p c o f g r a. done f g r a.active) s.to h.j h.abstraction s.from h.i h.application h.row
      refl refl (put V.begin nothing) (put V.last nothing) (V.carries nothing) tt

  pub none_is_seen : NoneIsSeen A
  none_is_seen N n L p c E s S =
      let V = S.redex in
      let h = V.route in
      begins N n L (λ u d. Joined (Move N) (free p, c) (u, d)) (λ u v d o l. on o (link l))
      (λ x k i s d h b o. back o (node k i h b refl)) (λ u d o. quiet_walk N n p c E u d o)
      s.to h.j h.abstraction s.from h.i h.application h.row refl refl (put V.begin S.rest)
      (put V.last S.rest) (V.carries S.rest) S.on_walk
