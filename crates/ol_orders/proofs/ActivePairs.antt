-- The active pairs of a net by numbers: how the list of them grows, and what a step leaves of them.
use Rattle.std.proofs.Common.{◌≡◌, ◌≢◌, ℕ, suc, ◌+◌, ◌<◌, ◌≤◌, true, false, List, [], ◌∷◌, ◌++◌}
use Rattle.std.proofs.Common.{length, ◌⊎◌, inl, inr, refl, sym, ap, ◌∙◌, subst, arith}
use Rattle.std.proofs.lemmas.Bool.{cases_lt, cases_eq}
use Rattle.std.specs.Ordering.{nat_cmp}
use Rattle.std.specs.BTreeSet.{BTreeSet, contains, Updates, IsLowerBound, btree_set_len}
use Rattle.ol_law_edges.specs.Edges.{IsIn}
use Rattle.ol_law_edges.proofs.Lists.{in_left, in_right, in_cases, only}
use Rattle.ol_net.specs.declared.parts.Kind.{Kind}
use Rattle.ol_net.specs.declared.parts.Rule.{Rule}
use Rattle.ol_net.specs.Graph.{Graph}
use Rattle.ol_net.specs.Nets.{NamedPort, slot, NamedNet, HasNode, Linked, IsNet}
use Rattle.ol_net.specs.Numbered.{net_of}
use Rattle.ol_net.specs.Pairs.{IsActive, IsInActive, IsComplete}
use Rattle.ol_rules.specs.Rewriting.{action_of}
use Rattle.ol_rules.specs.Running.{AllWait}
use Rattle.ol_rules.specs.Waiting.{IsActiveIn, IsBeside}
use Rattle.ol_rules.specs.Steps.{StepsAt}
use Rattle.ol_rules.proofs.FreshPairs.{linked_sym, active_after, gone}
use Rattle.ol_rules.proofs.OnTheWay.{node_below, the_pair}
use Rattle.ol_rules.proofs.Waiting.{differs, others_stay, lower, nothing_waits, active_node, active_below}
use Rattle.ol_diamond.specs.Replaying.{AreIdle}
use Rattle.ol_diamond.specs.Squares.{AreTogether}
use Rattle.ol_diamond.proofs.Pairs.{one_partner, faces_after}
use Rattle.ol_orders.specs.Played.{IsPair, AreRisingPairs, ArePairs, StillWait, NewWait}

-- The pairs that were found before these nodes are looked at: their smaller numbers are smaller than
-- all of these, and any other pair's smaller number is among them.
pub record AreTaken (g : Graph) (waiting : BTreeSet ℕ) (pairs : List (ℕ × ℕ)) : Type 0 where
  pub each : (p : ℕ × ℕ) → IsIn p pairs → (rule : Rule) × IsPair g p.0 p.1 rule
  pub earlier : (p : ℕ × ℕ) → IsIn p pairs → (z : ℕ) → contains nat_cmp waiting z ≡ true → p.0 < z
  pub all : (x y : ℕ) (rule : Rule) → IsPair g x y rule →
      IsIn (x, y) pairs ⊎ (contains nat_cmp waiting x ≡ true)
  pub rising : AreRisingPairs pairs

rising_on : (ps : List (ℕ × ℕ)) (p : ℕ × ℕ) → AreRisingPairs ps →
    ((q : ℕ × ℕ) → IsIn q ps → q.0 < p.0) → AreRisingPairs (ps ++ p ∷ [])
rising_on [] p h l = ((λ q i. absurd i), tt)
rising_on (d ∷ ps) p h l = (first, rising_on ps p h.1 (λ q i. l q (inr i)))
  where
    go : (q : ℕ × ℕ) → IsIn q ps ⊎ IsIn q (p ∷ []) → d.0 < q.0
    go q (inl i) = h.0 q i
    go q (inr i) = subst (λ (q : ℕ × ℕ). d.0 < q.0) (sym (only q p i)) (l d (inl refl))

    first : (q : ℕ × ℕ) → IsIn q (ps ++ p ∷ []) → d.0 < q.0
    first q i = go q (in_cases q ps (p ∷ []) i)

-- before the first one
pub none_yet : (g : Graph) (waiting : BTreeSet ℕ) (ps : List (ℕ × ℕ)) → ps ≡ [] → AllWait g waiting →
    AreTaken g waiting ps
none_yet g waiting ps e w = subst (λ ps. AreTaken g waiting ps) (sym e) (record {
  each = λ p i. absurd i;
  earlier = λ p i. absurd i;
  all = λ x y r p. inr (w x r p.active);
  rising = tt;
})

-- the least one is looked at
module _ (g : Graph) (old new : BTreeSet ℕ) (n : ℕ) (ps : List (ℕ × ℕ)) (h : AreTaken g old ps)
    (was : contains nat_cmp old n ≡ true) (least : IsLowerBound nat_cmp old n) (u : Updates nat_cmp old new n false) where
  is_other : (z : ℕ) → contains nat_cmp new z ≡ true → z ≢ n
  is_other z c e =
      let k : contains nat_cmp new n ≡ true = subst (λ z. contains nat_cmp new z ≡ true) e c in
      let k' = u.1 in
      absurd (cc)

  waited : (z : ℕ) → contains nat_cmp new z ≡ true → contains nat_cmp old z ≡ true
  waited z c = sym (u.2 z (differs n z (is_other z c))) ∙ c

  later : (z : ℕ) → contains nat_cmp new z ≡ true → n < z
  later z c = let l = lower old n z least (waited z c) in let d = is_other z c in omega arith

  -- it is the smaller one of a pair
  pub one_more : IsNet (net_of g) → (y : ℕ) (rule : Rule) → IsPair g n y rule →
      AreTaken g new (ps ++ (n, y) ∷ [])
  one_more is_net y rule pair = record {
    each = λ p i. each p (in_cases p ps ((n, y) ∷ []) i);
    earlier = λ p i. earlier p (in_cases p ps ((n, y) ∷ []) i);
    all = λ x z r p. all x z r p (h.all x z r p) (cases_eq x n);
    rising = rising_on ps (n, y) h.rising (λ q i. h.earlier q i n was);
  }
    where
      each : (p : ℕ × ℕ) → IsIn p ps ⊎ IsIn p ((n, y) ∷ []) → (r : Rule) × IsPair g p.0 p.1 r
      each p (inl i) = h.each p i
      each p (inr i) = subst (λ (p : ℕ × ℕ). (r : Rule) × IsPair g p.0 p.1 r) (sym (only p (n, y) i)) (rule, pair)

      earlier : (p : ℕ × ℕ) → IsIn p ps ⊎ IsIn p ((n, y) ∷ []) → (z : ℕ) →
          contains nat_cmp new z ≡ true → p.0 < z
      earlier p (inl i) z c = h.earlier p i z (waited z c)
      earlier p (inr i) z c = subst (λ (p : ℕ × ℕ). p.0 < z) (sym (only p (n, y) i)) (later z c)

      all : (x z : ℕ) (r : Rule) → IsPair g x z r → IsIn (x, z) ps ⊎ (contains nat_cmp old x ≡ true) →
          (x ≡ n) ⊎ (x ≢ n) → IsIn (x, z) (ps ++ (n, y) ∷ []) ⊎ (contains nat_cmp new x ≡ true)
      all x z r p (inl i) d = inl (in_left (x, z) ps ((n, y) ∷ []) i)
      all x z r p (inr c) (inl e) =
          let l = subst (λ x. Linked (net_of g) (slot x 0) (slot z 0)) e p.linked in
          let q : z ≡ y = one_partner (net_of g) is_net n z y l pair.linked in
          inl (in_right (x, z) ps ((n, y) ∷ []) (inl (λ i. (e i, q i))))
      all x z r p (inr c) (inr d) = inr (others_stay old new n false u x d c)

  -- or of none
  pub no_more : ((y : ℕ) (rule : Rule) → IsPair g n y rule → ⊥) → AreTaken g new ps
  no_more never = record {
    each = h.each;
    earlier = λ p i z c. h.earlier p i z (waited z c);
    all = λ x y r p. go x y r p (h.all x y r p) (cases_eq x n);
    rising = h.rising;
  }
    where
      go : (x y : ℕ) (r : Rule) → IsPair g x y r → IsIn (x, y) ps ⊎ (contains nat_cmp old x ≡ true) →
          (x ≡ n) ⊎ (x ≢ n) → IsIn (x, y) ps ⊎ (contains nat_cmp new x ≡ true)
      go x y r p (inl i) d = inl i
      go x y r p (inr c) (inl e) = absurd (never y r (subst (λ x. IsPair g x y r) e p))
      go x y r p (inr c) (inr d) = inr (others_stay old new n false u x d c)

-- after the last one
pub all_pairs : (g : Graph) (waiting : BTreeSet ℕ) (ps : List (ℕ × ℕ)) → btree_set_len waiting ≡ 0 →
    AreTaken g waiting ps → ArePairs g ps
all_pairs g waiting ps none h = record {
  each = h.each;
  all = λ x y r p. go x y (h.all x y r p);
  rising = h.rising;
}
  where
    go : (x y : ℕ) → IsIn (x, y) ps ⊎ (contains nat_cmp waiting x ≡ true) → IsIn (x, y) ps
    go x y (inl i) = i
    go x y (inr c) = absurd (nothing_waits waiting x none c)

-- both numbers were given out
pub pair_below : (g : Graph) → IsNet (net_of g) → (x y : ℕ) (r : Rule) → IsPair g x y r →
    (x < length g.nodes) × (y < length g.nodes)
pair_below g n x y r p =
    let t = n.of_ports (slot x 0) (slot y 0) p.linked in
    (node_below g x t.0.0 t.0.1 t.0.2, node_below g y t.1.0 t.1.1 t.1.2)

module _ (g : Graph) (is_net : IsNet (net_of g)) where
  abbrev N : NamedNet ℕ
  N = net_of g

  -- one of the two acts
  pub acts : (x y : ℕ) (r : Rule) → IsPair g x y r → IsActive N x y r ⊎ IsActive N y x r
  acts x y r p = go p.active
    where
      go : IsInActive N x r → IsActive N x y r ⊎ IsActive N y x r
      go (z, inl a) = inl (subst (λ z. IsActive N x z r) (one_partner N is_net x z y a.faces.linked p.linked) a)
      go (z, inr a) = inr (subst (λ z. IsActive N z x r)
          (one_partner N is_net x z y (linked_sym N (slot z 0) (slot x 0) a.faces.linked) p.linked) a)

  pub not_idle : (x y : ℕ) (r : Rule) → IsPair g x y r → AreIdle N x y → ⊥
  not_idle x y r p idle = go (acts x y r p)
    where
      go : IsActive N x y r ⊎ IsActive N y x r → ⊥
      go (inl a) = (idle r).0 a
      go (inr a) = (idle r).1 a

  -- a net without pairs is complete
  pub complete : ArePairs g [] → IsComplete N
  complete h f k r a = go (cases_lt f k) (cases_lt k f)
    where
      go : (f < k) ⊎ (k ≤ f) → (k < f) ⊎ (f ≤ k) → ⊥
      go (inl l) b = h.all f k r (record { lesser = l; linked = a.faces.linked; active = (k, inl a) })
      go (inr l) (inl b) = h.all k f r (record {
        lesser = b;
        linked = linked_sym N (slot f 0) (slot k 0) a.faces.linked;
        active = (f, inr a);
      })
      go (inr l) (inr b) = let e : k ≡ f = omega arith in
          is_net.apart (slot f 0) (subst (λ k. Linked N (slot f 0) (slot k 0)) e a.faces.linked)

  -- a pair with a greater smaller number has no node of this one
  pub far : (x y v w : ℕ) → x < y → v < w → x < v → Linked N (slot x 0) (slot y 0) →
      Linked N (slot v 0) (slot w 0) → AreTogether g x v → ⊥
  far x y v w a b l h k (inl e) = omega arith
  far x y v w a b l h k (inr j) =
      let e : w ≡ x = one_partner N is_net v w x k (linked_sym N (slot x 0) (slot v 0) j) in
      omega arith

  -- after the step of x it is active still
  pub pair_after : (g' : Graph) (x y v w : ℕ) (r q : Rule) → StepsAt g g' x r → x < y →
      Linked N (slot x 0) (slot y 0) → IsPair g v w q → x < v → IsPair g' v w q
  pair_after g' x y v w r q s a h p l = go (acts v w q p)
    where
      apart : AreTogether g x v → ⊥
      apart t = far x y v w a p.lesser l h p.linked t

      go : IsActive N v w q ⊎ IsActive N w v q → IsPair g' v w q
      go (inl t) =
          let f = faces_after g g' x r is_net s v v w q t (inl refl) apart in
          record {
            lesser = p.lesser;
            linked = f.linked;
            active = (w, inl (record { k = t.k; i = t.i; l = t.l; j = t.j; faces = f; fits = t.fits }));
          }
      go (inr t) =
          let f = faces_after g g' x r is_net s v w v q t (inr refl) apart in
          record {
            lesser = p.lesser;
            linked = linked_sym (net_of g') (slot w 0) (slot v 0) f.linked;
            active = (w, inr (record { k = t.k; i = t.i; l = t.l; j = t.j; faces = f; fits = t.fits }));
          }

-- a node of an active pair is one of a pair of the list
abbrev pub IsOfPair : ℕ → List (ℕ × ℕ) → Type 0
IsOfPair z ps = (p : ℕ × ℕ) × IsIn p ps × ((z ≡ p.0) ⊎ (z ≡ p.1))

pub of_pair : (g : Graph) → IsNet (net_of g) → (ps : List (ℕ × ℕ)) → ArePairs g ps → (z : ℕ) (r : Rule) →
    IsInActive (net_of g) z r → IsOfPair z ps
of_pair g n ps all z r (y, side) = go (cases_lt z y) (cases_lt y z) side
  where
    joined : IsActive (net_of g) z y r ⊎ IsActive (net_of g) y z r → Linked (net_of g) (slot z 0) (slot y 0)
    joined (inl a) = a.faces.linked
    joined (inr a) = linked_sym (net_of g) (slot y 0) (slot z 0) a.faces.linked

    turned : IsActive (net_of g) z y r ⊎ IsActive (net_of g) y z r → IsInActive (net_of g) y r
    turned (inl a) = (z, inr a)
    turned (inr a) = (z, inl a)

    go : (z < y) ⊎ (y ≤ z) → (y < z) ⊎ (z ≤ y) →
        IsActive (net_of g) z y r ⊎ IsActive (net_of g) y z r → IsOfPair z ps
    go (inl l) b a = ((z, y), all.all z y r (record { lesser = l; linked = joined a; active = (y, a) }), inl refl)
    go (inr l) (inl b) a = (
      (y, z),
      all.all y z r (record {
        lesser = b;
        linked = linked_sym (net_of g) (slot z 0) (slot y 0) (joined a);
        active = turned a;
      }),
      inr refl,
    )
    go (inr l) (inr b) a =
        let e : y ≡ z = omega arith in
        absurd (n.apart (slot z 0) (subst (λ y. Linked (net_of g) (slot z 0) (slot y 0)) e (joined a)))

-- after a step of x and y those nodes of active pairs are new that were born or stood beside the two
pub new_wait : (g g' : Graph) → IsNet (net_of g) → (x y : ℕ) (r : Rule) (s : StepsAt g g' x r) →
    Linked (net_of g) (slot x 0) (slot y 0) → (w : BTreeSet ℕ) →
    ((z : ℕ) → IsBeside g x z → contains nat_cmp w z ≡ true) →
    ((z : ℕ) → IsBeside g y z → contains nat_cmp w z ≡ true) →
    ((z : ℕ) → IsActiveIn g' (length g.nodes) (length g'.nodes) z → contains nat_cmp w z ≡ true) →
    NewWait g g' x y w
new_wait g g' n x y r s l w beside_x beside_y born z t a =
    go (active_after cases_eq (net_of g) (net_of g') n
    (λ p. length g.nodes + p) s.f s.g s.step.active.k s.step.active.i s.step.active.l
    s.step.active.j (action_of r s.step.active.j) s.step.active.faces s.step.rewrites fresh z t a)
  where
    fresh : (p : ℕ) (m : Kind) (i : ℕ) → HasNode (net_of g) (length g.nodes + p) m i → ⊥
    fresh p m i h = let b = node_below g (length g.nodes + p) m i h in omega arith

    both : ((x ≡ s.f) × (y ≡ s.g)) ⊎ ((x ≡ s.g) × (y ≡ s.f))
    both = the_pair g g' n x y r s l

    left : (z ≡ s.f) ⊎ (z ≡ s.g) → ⊥
    left e =
        let c = active_node g' z t a in
        gone cases_eq (net_of g) (net_of g') n
        (λ p. length g.nodes + p) s.f s.g s.step.active.k s.step.active.i s.step.active.l
        s.step.active.j (action_of r s.step.active.j) s.step.active.faces s.step.rewrites fresh z c.0 c.1 c.2 e

    not_x : ((x ≡ s.f) × (y ≡ s.g)) ⊎ ((x ≡ s.g) × (y ≡ s.f)) → z ≢ x
    not_x (inl e) q = left (inl (q ∙ e.0))
    not_x (inr e) q = left (inr (q ∙ e.0))

    not_y : ((x ≡ s.f) × (y ≡ s.g)) ⊎ ((x ≡ s.g) × (y ≡ s.f)) → z ≢ y
    not_y (inl e) q = left (inr (q ∙ e.1))
    not_y (inr e) q = left (inl (q ∙ e.1))

    beside : (f u : ℕ) → Linked (net_of g) (slot z 0) (slot f (suc u)) → (x ≡ f) ⊎ (y ≡ f) →
        contains nat_cmp w z ≡ true
    beside f u h (inl e) = let q : suc u ≡ u + 1 = omega arith in
        beside_x z (
          u,
          subst (λ x. Linked (net_of g) (slot z 0) (slot x (u + 1))) (sym e)
              (subst (λ s. Linked (net_of g) (slot z 0) (slot f s)) q h),
        )
    beside f u h (inr e) = let q : suc u ≡ u + 1 = omega arith in
        beside_y z (
          u,
          subst (λ x. Linked (net_of g) (slot z 0) (slot x (u + 1))) (sym e)
              (subst (λ s. Linked (net_of g) (slot z 0) (slot f s)) q h),
        )

    f_is : ((x ≡ s.f) × (y ≡ s.g)) ⊎ ((x ≡ s.g) × (y ≡ s.f)) → (x ≡ s.f) ⊎ (y ≡ s.f)
    f_is (inl e) = inl e.0
    f_is (inr e) = inr e.1

    g_is : ((x ≡ s.f) × (y ≡ s.g)) ⊎ ((x ≡ s.g) × (y ≡ s.f)) → (x ≡ s.g) ⊎ (y ≡ s.g)
    g_is (inl e) = inr e.1
    g_is (inr e) = inl e.0

    go : IsInActive (net_of g) z t ⊎ (((p : ℕ) × (z ≡ length g.nodes + p))
        ⊎ ((u : ℕ) × (Linked (net_of g) (slot z 0) (slot s.f (suc u))
        ⊎ Linked (net_of g) (slot z 0) (slot s.g (suc u))))) →
        (contains nat_cmp w z ≡ true) ⊎ (IsInActive (net_of g) z t × (z ≢ x) × (z ≢ y))
    go (inl c) = inr (c, not_x both, not_y both)
    go (inr (inl (p, e))) = let b = active_below g' z t a in inl (born z (omega arith, b, (t, a)))
    go (inr (inr (u, inl h))) = inl (beside s.f u h (f_is both))
    go (inr (inr (u, inr h))) = inl (beside s.g u h (g_is both))

-- Each node of an active pair waits, or is of one of the pairs that are left.
abbrev pub OthersWait : Graph → BTreeSet ℕ → List (ℕ × ℕ) → Type 0
OthersWait g waiting ps = (z : ℕ) (r : Rule) → IsInActive (net_of g) z r →
    (contains nat_cmp waiting z ≡ true) ⊎ IsOfPair z ps

pub others_on : (g g' : Graph) (old new : BTreeSet ℕ) (p : ℕ × ℕ) (ps : List (ℕ × ℕ)) →
    OthersWait g old (p ∷ ps) → StillWait old new → NewWait g g' p.0 p.1 new → OthersWait g' new ps
others_on g g' old new p ps h kept more z r a = go (more z r a)
  where
    side : (z ≢ p.0) → (z ≢ p.1) → (contains nat_cmp old z ≡ true) ⊎ IsOfPair z (p ∷ ps) →
        (contains nat_cmp new z ≡ true) ⊎ IsOfPair z ps
    side x y (inl c) = inl (kept z c)
    side x y (inr (q, inr i, e)) = inr (q, i, e)
    side x y (inr (q, inl i, inl e)) = absurd (x (e ∙ ap (λ (q : ℕ × ℕ). q.0) i))
    side x y (inr (q, inl i, inr e)) = absurd (y (e ∙ ap (λ (q : ℕ × ℕ). q.1) i))

    go : (contains nat_cmp new z ≡ true) ⊎ (IsInActive (net_of g) z r × (z ≢ p.0) × (z ≢ p.1)) →
        (contains nat_cmp new z ≡ true) ⊎ IsOfPair z ps
    go (inl c) = inl c
    go (inr t) = side t.1 t.2 (h z r t.0)

pub all_wait : (g : Graph) (waiting : BTreeSet ℕ) → OthersWait g waiting [] → AllWait g waiting
all_wait g waiting h z r a = go (h z r a)
  where
    go : (contains nat_cmp waiting z ≡ true) ⊎ IsOfPair z [] → contains nat_cmp waiting z ≡ true
    go (inl c) = c
    go (inr t) = absurd t.1

-- the partner of slot 0 tells whether there is a pair
pub no_pair : (g : Graph) → IsNet (net_of g) → (x : ℕ) (q : NamedPort ℕ) → Linked (net_of g) (slot x 0) q →
    ((y : ℕ) → x < y → q ≢ slot y 0) → (y : ℕ) (r : Rule) → IsPair g x y r → ⊥
no_pair g n x q l d y r p = d y p.lesser (n.one_link (slot x 0) q (slot y 0) l p.linked)

-- what is left of a list of pairs
pub record AreStillActive (g : Graph) (ps : List (ℕ × ℕ)) : Type 0 where
  pub each : (p : ℕ × ℕ) → IsIn p ps → (rule : Rule) × IsPair g p.0 p.1 rule
  pub rising : AreRisingPairs ps

-- the later pairs after the step of the first one
pub left_after : (g g' : Graph) → IsNet (net_of g) → (p : ℕ × ℕ) (ps : List (ℕ × ℕ)) →
    AreStillActive g (p ∷ ps) → (r : Rule) → StepsAt g g' p.0 r → AreStillActive g' ps
left_after g g' n p ps h r s = record {
  each = λ q i.
      let t = h.each q (inr i) in
      let a = (h.each p (inl refl)).1 in
      (t.0, pair_after g n g' p.0 p.1 q.0 q.1 r t.0 s a.lesser a.linked t.1 (h.rising.0 q i));
  rising = h.rising.1;
}
