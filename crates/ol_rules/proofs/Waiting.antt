-- The nodes that wait for their turn: sets of numbers, and what has to wait after a step.
use Rattle.std.proofs.Common.{◌≡◌, ◌≢◌, ℕ, suc, ◌+◌, ◌-◌, ◌<◌, ◌≤◌, Bool, true, false, nat_lt, nat_eq}
use Rattle.std.proofs.Common.{List, [], ◌∷◌, length, ◌⊎◌, inl, inr, refl, sym, ◌∙◌, subst, arith}
use Rattle.std.proofs.lemmas.Bool.{cases_lt, cases_eq}
use Rattle.std.proofs.lemmas.Bool.Decides.{nat_tests}
use Rattle.std.specs.Ordering.{nat_cmp, is_eq, is_gt}
use Rattle.std.specs.BTreeSet.{BTreeSet, contains, Updates, IsLowerBound, btree_set_len}
use Rattle.std.specs.BTreeMap.{is_at}
use Rattle.std.specs.List.{list_any}
use Rattle.ol_net.specs.declared.parts.Kind.{Kind}
use Rattle.ol_net.specs.declared.parts.Kind.TheVariants as kind
use Rattle.ol_net.specs.declared.parts.Rule.{Rule}
use Rattle.ol_net.specs.Parts.{arity}
use Rattle.ol_net.specs.Graph.{Graph}
use Rattle.ol_net.specs.Nets.{NamedPort, slot, HasNode, Linked, IsNet}
use Rattle.ol_net.specs.Numbered.{net_of}
use Rattle.ol_net.specs.Pairs.{IsInActive}
use Rattle.ol_rules.specs.Steps.{StepsAt}
use Rattle.ol_rules.specs.Rewriting.{action_of}
use Rattle.ol_rules.specs.Running.{AllWait, OthersWait, IsLeast}
use Rattle.ol_rules.specs.Waiting.{AreAdded}
use Rattle.ol_rules.proofs.FreshPairs.{active_after, gone}
use Rattle.ol_rules.proofs.OnTheWay.{node_below, the_pair}

pub differs : (k q : ℕ) → q ≢ k → is_eq (nat_cmp k q) ≡ false
differs k q h = go (cases_lt k q) (cases_lt q k)
  where
    go : (k < q) ⊎ (q ≤ k) → (q < k) ⊎ (k ≤ q) → is_eq (nat_cmp k q) ≡ false
    go (inl a) b = let e : nat_lt k q ≡ true = grind (arith, nat_tests) in rw e refl
    go (inr a) (inl b) = let e : nat_lt k q ≡ false = grind (arith, nat_tests) in
        let e' : nat_eq k q ≡ false = grind (arith, nat_tests) in rw (e, e') refl
    go (inr a) (inr b) = absurd (h (omega arith))

-- an update at one key leaves the others
pub others_stay : (s n : BTreeSet ℕ) (k : ℕ) (b : Bool) → Updates nat_cmp s n k b → (x : ℕ) →
    x ≢ k → contains nat_cmp s x ≡ true → contains nat_cmp n x ≡ true
others_stay s n k b u x h c = u.2 x (differs k x h) ∙ c

pub stays_after_insert : (s n : BTreeSet ℕ) (k : ℕ) → Updates nat_cmp s n k true → (x : ℕ) →
    contains nat_cmp s x ≡ true → contains nat_cmp n x ≡ true
stays_after_insert s n k u x c = go (cases_eq x k)
  where
    go : (x ≡ k) ⊎ (x ≢ k) → contains nat_cmp n x ≡ true
    go (inl e) = let P : ℕ → Type 0 = λ z. contains nat_cmp n z ≡ true in subst P (sym e) u.1
    go (inr h) = others_stay s n k true u x h c

pub lower : (s : BTreeSet ℕ) (k x : ℕ) → IsLowerBound nat_cmp s k → contains nat_cmp s x ≡ true → k ≤ x
lower s k x l c = go (cases_lt x k) (l x c)
  where
    go : (x < k) ⊎ (k ≤ x) → is_gt (nat_cmp k x) ≡ false → k ≤ x
    go (inl a) h =
        let e : nat_lt k x ≡ false = grind (arith, nat_tests) in
        let e' : nat_eq k x ≡ false = grind (arith, nat_tests) in
        let t : is_gt (nat_cmp k x) ≡ true = rw (e, e') refl in
        absurd (cc)
    go (inr b) h = b

pub nothing_waits : (s : BTreeSet ℕ) (x : ℕ) → btree_set_len s ≡ 0 → contains nat_cmp s x ≡ true → ⊥
nothing_waits s x h c = go s.keys h c
  where
    go : (ks : List ℕ) → length ks ≡ 0 → list_any (is_at (nat_cmp x)) ks ≡ true → ⊥
    go [] h c = cc
    go (k ∷ ks) h c = omega arith

-- a node of an active pair
pub active_node : (g : Graph) (x : ℕ) (r : Rule) → IsInActive (net_of g) x r →
    (k : Kind) × (i : ℕ) × HasNode (net_of g) x k i
active_node g x r (y, inl a) = (a.k, a.i, a.faces.first)
active_node g x r (y, inr a) = (a.l, a.j, a.faces.second)

pub active_below : (g : Graph) (x : ℕ) (r : Rule) → IsInActive (net_of g) x r → x < length g.nodes
active_below g x r a = let n = active_node g x r a in node_below g x n.0 n.1 n.2

-- ---- what is added

-- nothing
pub none_added : (A : ℕ → Type 0) (w : BTreeSet ℕ) → ((x : ℕ) → A x → ⊥) → AreAdded A w w
none_added A w never x = (inl, go)
  where
    go : (contains nat_cmp w x ≡ true) ⊎ A x → contains nat_cmp w x ≡ true
    go (inl h) = h
    go (inr a) = absurd (never x a)

-- one number, if no other is so
pub one_added : (A : ℕ → Type 0) (s n : BTreeSet ℕ) (k : ℕ) → Updates nat_cmp s n k true → A k →
    ((x : ℕ) → A x → x ≡ k) → AreAdded A s n
one_added A s n k u a one x = (go (cases_eq x k), back)
  where
    go : (x ≡ k) ⊎ (x ≢ k) → contains nat_cmp n x ≡ true → (contains nat_cmp s x ≡ true) ⊎ A x
    go (inl e) h = inr (subst A (sym e) a)
    go (inr d) h = inl (sym (u.2 x (differs k x d)) ∙ h)

    back : (contains nat_cmp s x ≡ true) ⊎ A x → contains nat_cmp n x ≡ true
    back (inl h) = stays_after_insert s n k u x h
    back (inr b) = let P : ℕ → Type 0 = λ z. contains nat_cmp n z ≡ true in subst P (sym (one x b)) u.1

-- these, and then those
pub more_added : (A B C : ℕ → Type 0) (u v w : BTreeSet ℕ) → AreAdded A u v → AreAdded B v w →
    ((x : ℕ) → A x ⊎ B x → C x) → ((x : ℕ) → C x → A x ⊎ B x) → AreAdded C u w
more_added A B C u v w f g all each x = ((λ h. last ((g x).0 h)), back)
  where
    first : (contains nat_cmp u x ≡ true) ⊎ A x → (contains nat_cmp u x ≡ true) ⊎ C x
    first (inl h) = inl h
    first (inr a) = inr (all x (inl a))

    last : (contains nat_cmp v x ≡ true) ⊎ B x → (contains nat_cmp u x ≡ true) ⊎ C x
    last (inl h) = first ((f x).0 h)
    last (inr b) = inr (all x (inr b))

    side : A x ⊎ B x → contains nat_cmp w x ≡ true
    side (inl a) = (g x).1 (inl ((f x).1 (inr a)))
    side (inr b) = (g x).1 (inr b)

    back : (contains nat_cmp u x ≡ true) ⊎ C x → contains nat_cmp w x ≡ true
    back (inl h) = (g x).1 (inl ((f x).1 (inl h)))
    back (inr c) = side (each x c)

-- the same numbers, told otherwise
pub same_added : (A B : ℕ → Type 0) (u v : BTreeSet ℕ) → AreAdded A u v → ((x : ℕ) → A x → B x) →
    ((x : ℕ) → B x → A x) → AreAdded B u v
same_added A B u v f to from x = ((λ h. on ((f x).0 h)), back)
  where
    on : (contains nat_cmp u x ≡ true) ⊎ A x → (contains nat_cmp u x ≡ true) ⊎ B x
    on (inl h) = inl h
    on (inr a) = inr (to x a)

    back : (contains nat_cmp u x ≡ true) ⊎ B x → contains nat_cmp v x ≡ true
    back (inl h) = (f x).1 (inl h)
    back (inr b) = (f x).1 (inr (from x b))

-- a loop over numbers, each of which is added if it is so
pub next_added : (A : ℕ → Type 0) (u v w : BTreeSet ℕ) (n : ℕ) →
    AreAdded (λ (x : ℕ). (x < n) × A x) u v → AreAdded (λ (x : ℕ). (x ≡ n) × A x) v w →
    AreAdded (λ (x : ℕ). (x < n + 1) × A x) u w
next_added A u v w n f g = more_added _ _ _ u v w f g all each
  where
    all : (x : ℕ) → ((x < n) × A x) ⊎ ((x ≡ n) × A x) → (x < n + 1) × A x
    all x (inl h) = (let b = h.0 in omega arith, h.1)
    all x (inr h) = (let b = h.0 in omega arith, h.1)

    each : (x : ℕ) → (x < n + 1) × A x → ((x < n) × A x) ⊎ ((x ≡ n) × A x)
    each x h = go (cases_lt x n)
      where
        go : (x < n) ⊎ (n ≤ x) → ((x < n) × A x) ⊎ ((x ≡ n) × A x)
        go (inl b) = inl (b, h.1)
        go (inr b) = inr (let c = h.0 in omega arith, h.1)

-- a loop over the slots of a node
module _ (g : Graph) (at : ℕ) (n : ℕ) where
  abbrev Before : ℕ → Type 0
  Before x = (s : ℕ) × (s + 1 < n) × Linked (net_of g) (slot x 0) (slot at (s + 1))

  abbrev Here : ℕ → Type 0
  Here x = Linked (net_of g) (slot x 0) (slot at n)

  abbrev Both : ℕ → Type 0
  Both x = (s : ℕ) × (s + 1 < n + 1) × Linked (net_of g) (slot x 0) (slot at (s + 1))

  either : 1 ≤ n → (x : ℕ) → Before x ⊎ Here x → Both x
  either some x (inl t) = (t.0, let b = t.1 in omega arith, t.2)
  either some x (inr l) = let e : n ≡ (n - 1) + 1 = omega arith in
      (n - 1, omega arith, subst (λ s. Linked (net_of g) (slot x 0) (slot at s)) e l)

  each : (x : ℕ) → Both x → Before x ⊎ Here x
  each x t = go (cases_lt (t.0 + 1) n)
    where
      go : (t.0 + 1 < n) ⊎ (n ≤ t.0 + 1) → Before x ⊎ Here x
      go (inl b) = inl (t.0, b, t.2)
      go (inr b) = let c = t.1 in let e : t.0 + 1 ≡ n = omega arith in
          inr (subst (λ s. Linked (net_of g) (slot x 0) (slot at s)) e t.2)

  pub next_beside : (u v w : BTreeSet ℕ) → 1 ≤ n → AreAdded Before u v → AreAdded Here v w → AreAdded Both u w
  next_beside u v w some f h = more_added Before Here Both u v w f h (either some) each

-- an auxiliary port is one of two
pub few_slots : (g : Graph) → IsNet (net_of g) → (p : NamedPort ℕ) (x s : ℕ) → Linked (net_of g) p (slot x s) → s < 3
few_slots g n p x s h = go (n.of_ports p (slot x s) h).1
  where
    few : (k : Kind) → s ≤ arity k → s < 3
    few kind.Lam b = omega arith
    few kind.App b = omega arith
    few kind.Fan b = omega arith
    few kind.Croissant b = omega arith
    few kind.Bracket b = omega arith
    few kind.Eraser b = omega arith

    go : (k : Kind) × (i : ℕ) × HasNode (net_of g) x k i × (s ≤ arity k) → s < 3
    go t = few t.0 t.3

-- After a step each node of an active pair waits: those that waited, without the one whose turn it was, those
-- beside the two, and those that were born.
pub all_wait_on : (g g' : Graph) → IsNet (net_of g) →
    (at partner : ℕ) (r : Rule) (s : StepsAt g g' at r) → IsLeast g at partner → (w : BTreeSet ℕ) → OthersWait g at w →
    ((x t : ℕ) → Linked (net_of g) (slot x 0) (slot at (t + 1)) → contains nat_cmp w x ≡ true) →
    ((x t : ℕ) → Linked (net_of g) (slot x 0) (slot partner (t + 1)) → contains nat_cmp w x ≡ true) →
    ((x : ℕ) (t : Rule) → length g.nodes ≤ x → x < length g'.nodes → IsInActive (net_of g') x t →
    contains nat_cmp w x ≡ true) →
    AllWait g' w
all_wait_on g g' n at partner r s least w others beside_at beside_partner born x t a =
    go (active_after cases_eq (net_of g) (net_of g') n
    (λ p. length g.nodes + p) s.f s.g s.step.active.k s.step.active.i s.step.active.l
    s.step.active.j (action_of r s.step.active.j) s.step.active.faces s.step.rewrites fresh x t a)
  where
    fresh : (p : ℕ) (m : Kind) (i : ℕ) → HasNode (net_of g) (length g.nodes + p) m i → ⊥
    fresh p m i h = let b = node_below g (length g.nodes + p) m i h in omega arith

    stays : (x ≡ at → ⊥)
    stays e =
        let c = active_node g' x t a in
        gone cases_eq (net_of g) (net_of g') n
        (λ p. length g.nodes + p) s.f s.g s.step.active.k s.step.active.i s.step.active.l
        s.step.active.j (action_of r s.step.active.j) s.step.active.faces s.step.rewrites fresh
        x c.0 c.1 c.2 (side s.one_of)
      where
        side : (at ≡ s.f) ⊎ (at ≡ s.g) → (x ≡ s.f) ⊎ (x ≡ s.g)
        side (inl q) = inl (e ∙ q)
        side (inr q) = inr (e ∙ q)

    at_slot : (f : ℕ) (u : ℕ) → Linked (net_of g) (slot x 0) (slot f (suc u)) →
        (at ≡ f) ⊎ (partner ≡ f) → contains nat_cmp w x ≡ true
    at_slot f u h (inl e) = let q : suc u ≡ u + 1 = omega arith in
        beside_at x u (subst (λ y. Linked (net_of g) (slot x 0) (slot y (u + 1))) (sym e)
        (subst (λ s. Linked (net_of g) (slot x 0) (slot f s)) q h))
    at_slot f u h (inr e) = let q : suc u ≡ u + 1 = omega arith in
        beside_partner x u (subst (λ y. Linked (net_of g) (slot x 0) (slot y (u + 1))) (sym e)
        (subst (λ s. Linked (net_of g) (slot x 0) (slot f s)) q h))

    f_is : ((at ≡ s.f) × (partner ≡ s.g)) ⊎ ((at ≡ s.g) × (partner ≡ s.f)) → (at ≡ s.f) ⊎ (partner ≡ s.f)
    f_is (inl e) = inl e.0
    f_is (inr e) = inr e.1

    g_is : ((at ≡ s.f) × (partner ≡ s.g)) ⊎ ((at ≡ s.g) × (partner ≡ s.f)) → (at ≡ s.g) ⊎ (partner ≡ s.g)
    g_is (inl e) = inr e.1
    g_is (inr e) = inl e.0

    go : IsInActive (net_of g) x t ⊎ (((p : ℕ) × (x ≡ length g.nodes + p))
        ⊎ ((u : ℕ) × (Linked (net_of g) (slot x 0) (slot s.f (suc u))
        ⊎ Linked (net_of g) (slot x 0) (slot s.g (suc u))))) → contains nat_cmp w x ≡ true
    go (inl c) = others x t c stays
    go (inr (inl (p, e))) = let b = active_below g' x t a in born x t (omega arith) b a
    go (inr (inr (u, inl h))) = at_slot s.f u h (f_is (the_pair g g' n at partner r s least.linked))
    go (inr (inr (u, inr h))) = at_slot s.g u h (g_is (the_pair g g' n at partner r s least.linked))
