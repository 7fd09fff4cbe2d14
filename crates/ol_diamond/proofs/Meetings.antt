-- Two nodes that meet: their slots of one number are joined, and each port to which one of these was linked is raised.
use Rattle.std.proofs.Common.{◌≡◌, ◌≢◌, ℕ, zero, suc, ◌<◌, ◌≤◌, max, Bool, ◌⊎◌, ◌↔◌, inl, inr, refl}
use Rattle.std.proofs.Common.{sym, ap, ◌∙◌, subst, arith}
use Rattle.ol_law_edges.specs.Edges.{IsTest, Edge, Contracted}
use Rattle.ol_law_edges.proofs.Contraction.{is_or_is_not}
use Rattle.ol_law_edges.proofs.Composing.{HasEdge, contracted_map, contracted_twice}
use Rattle.ol_net.specs.declared.parts.Kind.{Kind}
use Rattle.ol_net.specs.Parts.{arity}
use Rattle.ol_net.specs.Nets.{NamedPort, slot, NamedNet, Linked, IsPort, IsNet, IsPrincipalOf, IsSlotOf}
use Rattle.ol_rules.specs.Contracting.{port_same}
use Rattle.ol_rules.specs.Rewriting.{meeting, JoinOf, meet, at_f, at_g, between}
use Rattle.ol_rules.proofs.Born.{at_most_two}
use Rattle.ol_rules.proofs.FreshPairs.{linked_sym}
use Rattle.ol_rules.proofs.Tests.{port_test}
use Rattle.ol_diamond.specs.Waves.{WeightedNet, LinkedWithin, LeftWithin}
use Rattle.ol_diamond.proofs.Weighted.{iff_trans}
use Rattle.ol_diamond.proofs.OneJoin.{AreLinks, IsOneOf, JoinedAt, AndJoin, Left, linked, by_a, by_b, left_of, of_left}
use Rattle.ol_diamond.proofs.OneJoin.{links_left, AreWithin, StaysGreatest, within_left}

max_comm : (a b : ℕ) → max a b ≡ max b a
max_comm a b = omega arith

max_turned : (a b m : ℕ) → max a (max m b) ≡ max b (max m a)
max_turned a b m = omega arith

-- a link weighs as much as the heavier of its ports
abbrev pub heavier : {A : Type 0} → (NamedPort A → ℕ) → NamedPort A → NamedPort A → ℕ
heavier w u v = max (w u) (w v)

abbrev pub by_ports : {A : Type 0} → NamedNet A → (NamedPort A → ℕ) → WeightedNet A
by_ports N w = record { net = N; weight = heavier w }

-- The ports to which a and b are linked are raised: each weighs at least as much as a, as b and as
-- the wave. All other ports
-- weigh what they did.
pub record IsRaised {A : Type 0} (N : NamedNet A) (a b : NamedPort A) (wave : ℕ) (w w' : NamedPort A → ℕ) : Type 0 where
  pub near : (z : NamedPort A) → Linked N z a ⊎ Linked N z b → w' z ≡ max (w z) (max wave (max (w a) (w b)))
  pub far : (z : NamedPort A) → IsPort N z → (Linked N z a → ⊥) → (Linked N z b → ⊥) → w' z ≡ w z

module _ {A : Type 0} (same : A → A → Bool) (test : IsTest same) (names : ℕ → A) (N : NamedNet A)
    (net : IsNet N) (f g : A) (differ : f ≢ g) (k l : Kind) (wave : ℕ) where
  -- the links but that of the two principal ports
  abbrev Kept : (NamedPort A → NamedPort A → Type 0) → NamedPort A → NamedPort A → Type 0
  Kept R u v = R u v × (IsPrincipalOf f g u → ⊥) × (IsPrincipalOf f g v → ⊥)

  abbrev First : (NamedPort A → NamedPort A → Type 0) → Type 0 → NamedPort A → NamedPort A → Type 0
  First R C = AndJoin (Kept R) (slot f 1) (slot g 1) C

  abbrev Once : (NamedPort A → NamedPort A → Type 0) → Type 0 → NamedPort A → NamedPort A → Type 0
  Once R C = Contracted (First R C) (IsOneOf (slot f 1) (slot g 1))

  abbrev Twice : (NamedPort A → NamedPort A → Type 0) → Type 0 → Type 0 → NamedPort A → NamedPort A → Type 0
  Twice R C D = Contracted (AndJoin (Once R C) (slot f 2) (slot g 2) D) (IsOneOf (slot f 2) (slot g 2))

  decide : (u v : NamedPort A) → (u ≡ v) ⊎ (u ≢ v)
  decide u v = is_or_is_not (port_same same) (port_test same test) v u

  differ1 : slot f 1 ≢ slot g 1
  differ1 e = let q : f ≡ g = cc in differ q

  differ2 : slot f 2 ≢ slot g 2
  differ2 e = let q : f ≡ g = cc in differ q

  -- slots 2 are none of the slots 1, and no principal ports
  second_f : IsOneOf (slot f 1) (slot g 1) (slot f 2) → ⊥
  second_f (inl e) = cc
  second_f (inr e) = cc

  second_g : IsOneOf (slot f 1) (slot g 1) (slot g 2) → ⊥
  second_g (inl e) = cc
  second_g (inr e) = cc

  plain_f : (s : ℕ) → IsPrincipalOf f g (slot f (suc s)) → ⊥
  plain_f s (inl e) = cc
  plain_f s (inr e) = cc

  plain_g : (s : ℕ) → IsPrincipalOf f g (slot g (suc s)) → ⊥
  plain_g s (inl e) = cc
  plain_g s (inr e) = cc

  -- ---- the two joins one after the other

  module _ (R : NamedPort A → NamedPort A → Type 0)
      (within_net : (u v : NamedPort A) → R u v → Linked N u v) (C D : Type 0) (J : NamedPort A → NamedPort A → Type 0)
      (split : (u v : NamedPort A) → J u v →
      JoinedAt (slot f 1) (slot g 1) C u v ⊎ JoinedAt (slot f 2) (slot g 2) D u v)
      (first : (u v : NamedPort A) → JoinedAt (slot f 1) (slot g 1) C u v → J u v)
      (second : (u v : NamedPort A) → JoinedAt (slot f 2) (slot g 2) D u v → J u v) where
    abbrev Both : NamedPort A → Type 0
    Both u = IsOneOf (slot f 1) (slot g 1) u ⊎ IsOneOf (slot f 2) (slot g 2) u

    abbrev All : NamedPort A → NamedPort A → Type 0
    All u v = First R C u v ⊎ JoinedAt (slot f 2) (slot g 2) D u v

    edge_to : (u v : NamedPort A) → All u v → Edge R (IsPrincipalOf f g) J u v
    edge_to u v (inl (inl h)) = inl h
    edge_to u v (inl (inr h)) = inr (first u v h)
    edge_to u v (inr h) = inr (second u v h)

    edge_from : (u v : NamedPort A) → Edge R (IsPrincipalOf f g) J u v → All u v
    edge_from u v (inl h) = inl (inl h)
    edge_from u v (inr h) = go (split u v h)
      where
        go : JoinedAt (slot f 1) (slot g 1) C u v ⊎ JoinedAt (slot f 2) (slot g 2) D u v → All u v
        go (inl j) = inl (inr j)
        go (inr j) = inr j

    slots_from : (u : NamedPort A) → Both u → IsSlotOf f g u
    slots_from u (inl (inl e)) = (1, inl e)
    slots_from u (inl (inr e)) = (1, inr e)
    slots_from u (inr (inl e)) = (2, inl e)
    slots_from u (inr (inr e)) = (2, inr e)

    -- what an end of an edge is
    abbrev End : NamedPort A → Type 0
    End u = (IsPort N u × (IsPrincipalOf f g u → ⊥)) ⊎ Both u

    end_of : (u : NamedPort A) → HasEdge All u → End u
    end_of u (v, inl (inl (inl h))) = inl ((net.of_ports u v (within_net u v h.0)).0, h.1)
    end_of u (v, inl (inl (inr h))) = inr (inl (inl h.0))
    end_of u (v, inl (inr h)) = inr (inr (inl h.0))
    end_of u (v, inr (inl (inl h))) = inl ((net.of_ports v u (within_net v u h.0)).1, h.2)
    end_of u (v, inr (inl (inr h))) = inr (inl (inr h.1))
    end_of u (v, inr (inr h)) = inr (inr (inr h.1))

    few : (x : A) (s : ℕ) → IsPort N (slot x s) → s ≤ 2
    few x s (k, i, h, b) = let t = at_most_two k in omega arith

    slots_to : (u : NamedPort A) → End u → IsSlotOf f g u → Both u
    slots_to u (inr h) s = h
    slots_to u (inl (p, n)) (zero, inl e) = absurd (n (inl e))
    slots_to u (inl (p, n)) (zero, inr e) = absurd (n (inr e))
    slots_to u (inl (p, n)) (suc zero, inl e) = inl (inl e)
    slots_to u (inl (p, n)) (suc zero, inr e) = inl (inr e)
    slots_to u (inl (p, n)) (suc (suc zero), inl e) = inr (inl e)
    slots_to u (inl (p, n)) (suc (suc zero), inr e) = inr (inr e)
    slots_to u (inl (p, n)) (suc (suc (suc s)), inl e) = absurd
        (let b = few f (suc (suc (suc s))) (subst (λ u. IsPort N u) e p) in omega arith)
    slots_to u (inl (p, n)) (suc (suc (suc s)), inr e) = absurd
        (let b = few g (suc (suc (suc s))) (subst (λ u. IsPort N u) e p) in omega arith)

    first_out : (u v : NamedPort A) → JoinedAt (slot f 2) (slot g 2) D u v → IsOneOf (slot f 1) (slot g 1) u → ⊥
    first_out u v h o = second_f (subst (λ u. IsOneOf (slot f 1) (slot g 1) u) h.0 o)

    second_out : (u v : NamedPort A) → JoinedAt (slot f 2) (slot g 2) D u v → IsOneOf (slot f 1) (slot g 1) v → ⊥
    second_out u v h o = second_g (subst (λ v. IsOneOf (slot f 1) (slot g 1) v) h.1 o)

    twice : (u v : NamedPort A) → Twice R C D u v ↔ Contracted (Edge R (IsPrincipalOf f g) J) (IsSlotOf f g) u v
    twice u v = iff_trans
        (contracted_twice decide (First R C) (JoinedAt (slot f 2) (slot g 2) D)
        (IsOneOf (slot f 1) (slot g 1)) (IsOneOf (slot f 2) (slot g 2)) first_out second_out u v) (
          (λ c. contracted_map edge_to (λ u e s. slots_to u (end_of u e) s) u v c),
          (λ c. contracted_map edge_from (λ u e b. slots_from u b) u v c),
        )

  -- the joins of a meeting are those of the slots 1 and of the slots 2
  two_joins : (u v : NamedPort A) → JoinOf names f g k l meeting u v →
      JoinedAt (slot f 1) (slot g 1) (0 < arity k) u v ⊎ JoinedAt (slot f 2) (slot g 2) (1 < arity k) u v
  two_joins u v (meet {s = s} e b) = go s b
    where
      go : (s : ℕ) → s < arity k → JoinedAt (slot f 1) (slot g 1) (0 < arity k) (slot f (suc s))
          (slot g (suc s)) ⊎ JoinedAt (slot f 2) (slot g 2) (1 < arity k) (slot f (suc s)) (slot g (suc s))
      go zero b = inl (refl, refl, b)
      go (suc zero) b = inr (refl, refl, b)
      go (suc (suc s)) b = absurd (let t = at_most_two k in omega arith)
  two_joins u v (at_f j e b) = absurd (cc)
  two_joins u v (at_g j e b) = absurd (cc)
  two_joins u v (between j e b b') = absurd (cc)

  first_join : (u v : NamedPort A) → JoinedAt (slot f 1) (slot g 1) (0 < arity k) u v → JoinOf names f g k l meeting u v
  first_join u v h = subst (λ u. JoinOf names f g k l meeting u v) (sym h.0)
      (subst (λ v. JoinOf names f g k l meeting (slot f 1) v) (sym h.1) (meet refl h.2))

  second_join : (u v : NamedPort A) → JoinedAt (slot f 2) (slot g 2) (1 < arity k) u v →
      JoinOf names f g k l meeting u v
  second_join u v h = subst (λ u. JoinOf names f g k l meeting u v) (sym h.0)
      (subst (λ v. JoinOf names f g k l meeting (slot f 2) v) (sym h.1) (meet refl h.2))

  -- ---- what they weigh

  links0 : AreLinks (Kept (Linked N))
  links0 = record {
    swap = λ u v h. (linked_sym N u v h.0, h.2, h.1);
    one = λ u v w h k. net.one_link u v w h.0 k.0;
    apart = λ u h. net.apart u h.0;
  }

  module _ (w w1 w2 : NamedPort A → ℕ) (r1 : IsRaised N (slot f 1) (slot g 1) wave w w1)
      (r2 : IsRaised N (slot f 2) (slot g 2) wave w1 w2) where
    abbrev C : Type 0
    C = 0 < arity k

    abbrev D : Type 0
    D = 1 < arity k

    abbrev Within : ℕ → NamedPort A → NamedPort A → Type 0
    Within n = LinkedWithin (by_ports N w) n

    within0 : AreWithin (Kept (Linked N)) (heavier w) (λ n. Kept (Within n))
    within0 n u v = ((λ h. ((h.0.0, h.1, h.2), h.0.1)), (λ h. ((h.0.0, h.1), h.0.1, h.0.2)))

    ends : (u v : NamedPort A) → Kept (Linked N) u v → IsPort N u × IsPort N v
    ends u v h = net.of_ports u v h.0

    stays1 : StaysGreatest (Kept (Linked N)) (heavier w) (slot f 1) (slot g 1) wave (heavier w1)
    stays1 = record {
      same = λ u v m n h.
          let p = ends u v h in
          let x = r1.far u p.0 (λ z. n (inl (net.one_link u v (slot f 1) h.0 z)))
          (λ z. n (inr (net.one_link u v (slot g 1) h.0 z))) in
          let y = r1.far v p.1 (λ z. m (inl (net.one_link v u (slot f 1) (linked_sym N u v h.0) z)))
          (λ z. m (inr (net.one_link v u (slot g 1) (linked_sym N u v h.0) z))) in
          omega arith;
      by_a = λ u v m n h h'.
          let x = r1.near u (inl h.0) in
          let y = r1.near v (inr (linked_sym N (slot g 1) v h'.0)) in
          omega arith;
      by_b = λ u v m n h h'.
          let x = r1.near u (inr h.0) in
          let y = r1.near v (inl (linked_sym N (slot f 1) v h'.0)) in
          omega arith;
    }

    abbrev L1 : NamedPort A → NamedPort A → Type 0
    L1 = Once (Linked N) C

    links1 : AreLinks L1
    links1 = links_left (Kept (Linked N)) links0 (slot f 1) (slot g 1) differ1 C

    left1 : (u v : NamedPort A) → L1 u v → Left (Kept (Linked N)) (slot f 1) (slot g 1) C u v
    left1 u v h = left_of (Kept (Linked N)) links0 (slot f 1) (slot g 1) differ1 C u v h

    within1 : AreWithin L1 (heavier w1) (λ n. Once (Within n) (C × (wave ≤ n)))
    within1 = within_left (Kept (Linked N)) links0 (heavier w) (λ u v. omega arith)
        (λ n. Kept (Within n)) within0 (slot f 1) (slot g 1) differ1 C wave (heavier w1) stays1

    -- an end of a link that is left is a port that stays
    stays_end : (u v : NamedPort A) → L1 u v → IsPort N u × (IsPrincipalOf f g u → ⊥)
    stays_end u v h = go (left1 u v h)
      where
        go : Left (Kept (Linked N)) (slot f 1) (slot g 1) C u v → IsPort N u × (IsPrincipalOf f g u → ⊥)
        go (linked e) = ((ends u v e).0, e.1)
        go (by_a c e e') = ((ends u (slot f 1) e).0, e.1)
        go (by_b c e e') = ((ends u (slot g 1) e).0, e.1)

    -- what is linked to a slot 2 is no other end
    not_f : (u v : NamedPort A) → L1 u v → (IsOneOf (slot f 2) (slot g 2) v → ⊥) → Linked N u (slot f 2) → ⊥
    not_f u v h n z =
        let c : L1 u (slot f 2) = of_left (Kept (Linked N)) links0 (slot f 1) (slot g 1) differ1 C u
        (slot f 2) h.first second_f (linked (z, (stays_end u v h).1, plain_f 1)) in
        n (inl (links1.one u v (slot f 2) h c))

    not_g : (u v : NamedPort A) → L1 u v → (IsOneOf (slot f 2) (slot g 2) v → ⊥) → Linked N u (slot g 2) → ⊥
    not_g u v h n z =
        let c : L1 u (slot g 2) = of_left (Kept (Linked N)) links0 (slot f 1) (slot g 1) differ1 C u
        (slot g 2) h.first second_g (linked (z, (stays_end u v h).1, plain_g 1)) in
        n (inr (links1.one u v (slot g 2) h c))

    abbrev m2 : ℕ
    m2 = max wave (max (w1 (slot f 2)) (w1 (slot g 2)))

    abbrev RaisedOrNot : NamedPort A → Type 0
    RaisedOrNot z = (w2 z ≡ max (w1 z) m2) ⊎ (w2 z ≡ w1 z)

    raised_or_not : (z : NamedPort A) → IsPort N z → RaisedOrNot z
    raised_or_not z p = let q = net.some_link z p in go q.0 q.1 (decide q.0 (slot f 2)) (decide q.0 (slot g 2))
      where
        go : (q : NamedPort A) → Linked N z q → (q ≡ slot f 2) ⊎ (q ≢ slot f 2) →
            (q ≡ slot g 2) ⊎ (q ≢ slot g 2) → RaisedOrNot z
        go q h (inl e) y = inl (r2.near z (inl (subst (λ q. Linked N z q) e h)))
        go q h (inr n) (inl e) = inl (r2.near z (inr (subst (λ q. Linked N z q) e h)))
        go q h (inr n) (inr m) = inr (r2.far z p (λ t. n (net.one_link z q (slot f 2) h t))
            (λ t. m (net.one_link z q (slot g 2) h t)))

    -- of two ends that the join of the slots 2 makes one link, one at least is raised
    one_raised : (u v : NamedPort A) → (IsOneOf (slot f 2) (slot g 2) u → ⊥) → L1 u (slot f 2) →
        L1 (slot g 2) v → (w2 u ≡ max (w1 u) m2) ⊎ (w2 v ≡ max (w1 v) m2)
    one_raised u v n h h' = go (left1 u (slot f 2) h) (left1 (slot g 2) v h')
      where
        go : Left (Kept (Linked N)) (slot f 1) (slot g 1) C u (slot f 2) →
            Left (Kept (Linked N)) (slot f 1) (slot g 1) C (slot g 2) v →
            (w2 u ≡ max (w1 u) m2) ⊎ (w2 v ≡ max (w1 v) m2)
        go (linked e) y = inl (r2.near u (inl e.0))
        go x (linked e) = inr (r2.near v (inr (linked_sym N (slot g 2) v e.0)))
        go (by_a c e e') (by_a d i i') = absurd
            (n (inr (links0.one (slot f 1) u (slot g 2) (links0.swap u (slot f 1) e)
            (links0.swap (slot g 2) (slot f 1) i))))
        go (by_a c e e') (by_b d i i') = absurd
            (differ2 (links0.one (slot g 1) (slot f 2) (slot g 2) e' (links0.swap (slot g 2) (slot g 1) i)))
        go (by_b c e e') (by_a d i i') = absurd
            (differ2 (links0.one (slot f 1) (slot f 2) (slot g 2) e' (links0.swap (slot g 2) (slot f 1) i)))
        go (by_b c e e') (by_b d i i') = absurd
            (n (inr (links0.one (slot g 1) u (slot g 2) (links0.swap u (slot g 1) e)
            (links0.swap (slot g 2) (slot g 1) i))))

    over : (u v : NamedPort A) → (IsOneOf (slot f 2) (slot g 2) u → ⊥) → L1 u (slot f 2) →
        L1 (slot g 2) v → heavier w2 u v ≡ max (heavier w1 u (slot f 2)) (max wave (heavier w1 (slot g 2) v))
    over u v n h h' = go (one_raised u v n h h') (raised_or_not u (stays_end u (slot f 2) h).0)
        (raised_or_not v (stays_end v (slot g 2) (links1.swap (slot g 2) v h')).0)
      where
        go : (w2 u ≡ max (w1 u) m2) ⊎ (w2 v ≡ max (w1 v) m2) → RaisedOrNot u → RaisedOrNot v →
            heavier w2 u v ≡ max (heavier w1 u (slot f 2)) (max wave (heavier w1 (slot g 2) v))
        go (inl e) y (inl z) = omega arith
        go (inl e) y (inr z) = omega arith
        go (inr e) (inl y) z = omega arith
        go (inr e) (inr y) z = omega arith

    stays2 : StaysGreatest L1 (heavier w1) (slot f 2) (slot g 2) wave (heavier w2)
    stays2 = record {
      same = λ u v m n h.
          let h' = links1.swap u v h in
          let x = r2.far u (stays_end u v h).0 (not_f u v h n) (not_g u v h n) in
          let y = r2.far v (stays_end v u h').0 (not_f v u h' m) (not_g v u h' m) in
          omega arith;
      by_a = λ u v m n h h'. over u v m h h';
      by_b = λ u v m n h h'.
          max_comm (w2 u) (w2 v) ∙ over v u n (links1.swap (slot f 2) v h') (links1.swap u (slot g 2) h)
          ∙ ap (λ z. max z (max wave (heavier w1 (slot g 2) u))) (max_comm (w1 v) (w1 (slot f 2)))
          ∙ ap (λ z. max (heavier w1 (slot f 2) v) (max wave z)) (max_comm (w1 (slot g 2)) (w1 u))
          ∙ max_turned (heavier w1 (slot f 2) v) (heavier w1 u (slot g 2)) wave;
    }

    within2 : AreWithin (Twice (Linked N) C D) (heavier w2) (λ n. Twice (Within n) (C × (wave ≤ n)) (D × (wave ≤ n)))
    within2 = within_left L1 links1 (heavier w1) (λ u v. omega arith)
        (λ n. Once (Within n) (C × (wave ≤ n))) within1 (slot f 2) (slot g 2) differ2 D wave (heavier w2) stays2

    -- the joins that weigh n at most
    split_within : (n : ℕ) (u v : NamedPort A) → JoinOf names f g k l meeting u v × (wave ≤ n) →
        JoinedAt (slot f 1) (slot g 1) (C × (wave ≤ n)) u v ⊎ JoinedAt (slot f 2) (slot g 2) (D × (wave ≤ n)) u v
    split_within n u v h = go (two_joins u v h.0)
      where
        go : JoinedAt (slot f 1) (slot g 1) C u v ⊎ JoinedAt (slot f 2) (slot g 2) D u v →
            JoinedAt (slot f 1) (slot g 1) (C × (wave ≤ n)) u v ⊎ JoinedAt (slot f 2) (slot g 2) (D × (wave ≤ n)) u v
        go (inl j) = inl (j.0, j.1, (j.2, h.1))
        go (inr j) = inr (j.0, j.1, (j.2, h.1))

    pub meeting_weighs : (M : NamedNet A) →
        ((u v : NamedPort A) → Linked M u v ↔ Contracted
        (Edge (Linked N) (IsPrincipalOf f g) (JoinOf names f g k l meeting)) (IsSlotOf f g) u v) →
        (n : ℕ) (u v : NamedPort A) → LinkedWithin
        (by_ports M w2) n u v ↔ LeftWithin names f g k l meeting wave (LinkedWithin (by_ports N w)) n u v
    meeting_weighs M links n u v =
        let whole = twice (Linked N) (λ u v h. h) C D
        (JoinOf names f g k l meeting) two_joins first_join second_join u v in
        let some = twice (Within n) (λ u v h. h.0) (C × (wave ≤ n)) (D × (wave ≤ n))
        (λ u v. JoinOf names f g k l meeting u v × (wave ≤ n)) (split_within n)
        (λ u v j. (first_join u v (j.0, j.1, j.2.0), j.2.1))
        (λ u v j. (second_join u v (j.0, j.1, j.2.0), j.2.1)) u v in
        let weighs = within2 n u v in (
          (λ h. some.0 (weighs.1 (whole.1 ((links u v).0 h.0), h.1))),
          (λ c. let t = weighs.0 (some.1 c) in ((links u v).1 (whole.0 t.0), t.1)),
        )
