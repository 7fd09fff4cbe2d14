-- States of a walk: a port and a context. What a step does to what they are joined by.
use Rattle.std.proofs.Common.{◌≡◌, ◌≢◌, ℕ, zero, suc, ◌<◌, ◌⊎◌, ◌↔◌, inl, inr, refl, sym, ap, ◌∙◌, subst, arith}
use Rattle.ol_context.proofs.Contexts.{injective}
use Rattle.ol_context.specs.Contexts.{Context, up}
use Rattle.ol_law_edges.proofs.Joining.{joined_trans, joined_sym, joined_image}
use Rattle.ol_law_edges.specs.Edges.{Joined, here, on, back}
use Rattle.ol_invariance.proofs.Rewire.{Rewire, rewired}
use Rattle.ol_net.specs.Nets.{NamedPort, free, slot, NamedNet, HasNode, Linked, IsNet, Faces}
use Rattle.ol_net.specs.Parts.{arity}
use Rattle.ol_net.specs.declared.parts.Kind.{Kind}
use Rattle.ol_rules.proofs.FreshPairs.{linked_sym}
use Rattle.ol_rules.specs.Contracting.{Vertex, old, f_copy, g_copy}
use Rattle.ol_rules.proofs.Wires.{Off, Join, meet, at_f, at_g, between, Wire, stays, join}
use Rattle.ol_rules.specs.Rewriting.{Action, meeting, crossing}

abbrev pub State : Type 0 → Type 0
State P = P × Context

-- along a link, or through a node from its slot 0 to another slot; the way back is the same move
pub data Move {A : Type 0} (N : NamedNet A) : State (NamedPort A) → State (NamedPort A) → Type 0 where
  link : {p q : NamedPort A} {c : Context} → Linked N p q → Move N (p, c) (q, c)
  node : {x : A} {s : ℕ} {c d : Context} (k : Kind) (i : ℕ) → HasNode N x k i → s < arity k →
      up k i s c ≡ d → Move N (slot x 0, d) (slot x (suc s), c)

pub record Meets (k : Kind) (i : ℕ) (l : Kind) (j : ℕ) : Type 0 where
  pub arities : arity k ≡ arity l
  pub alike : (s : ℕ) (c : Context) → s < arity k → up k i s c ≡ up l j s c

pub record Commutes (k : Kind) (i : ℕ) (l : Kind) (j j' : ℕ) : Type 0 where
  pub commute : (p q : ℕ) (c : Context) → p < arity k → q < arity l → up k i p (up l j' q c) ≡ up l j q (up k i p c)
  pub pull : (p q : ℕ) (c d : Context) → p < arity k → q < arity l → up k i p c ≡ up l j q d →
      (b : Context) × (up l j' q b ≡ c) × (up k i p b ≡ d)

abbrev pub Suits : Action → Kind → ℕ → Kind → ℕ → Type 0
Suits meeting k i l j = Meets k i l j
Suits (crossing j') k i l j = Commutes k i l j j'

module _ {A : Type 0} (N : NamedNet A) (f g : A) (k : Kind) (i : ℕ) (l : Kind) (j : ℕ) where
  -- the moves along the edges of a step, and through the nodes that are there then
  pub data After (a : Action) : State (Vertex A) → State (Vertex A) → Type 0 where
    wire : {u v : Vertex A} {c : Context} → Wire N f g k i l j a u v → After a (u, c) (v, c)
    other_node : {x : A} {s : ℕ} {c d : Context} (m : Kind) (n : ℕ) → HasNode N x m n → x ≢ f →
        x ≢ g → s < arity m → up m n s c ≡ d → After a (old (slot x 0), d) (old (slot x (suc s)), c)
    f_node : {p q : ℕ} {c d : Context} (j' : ℕ) → a ≡ crossing j' → p < arity k → q < arity l →
        up k i p c ≡ d → After a (f_copy q 0, d) (f_copy q (suc p), c)
    g_node : {p q : ℕ} {c d : Context} (j' : ℕ) → a ≡ crossing j' → p < arity k → q < arity l →
        up l j' q c ≡ d → After a (g_copy p 0, d) (g_copy p (suc q), c)

  abbrev pub as_old : State (NamedPort A) → State (Vertex A)
  as_old u = (old u.0, u.1)

  abbrev pub MidOf : Context → State (NamedPort A) → Type 0
  MidOf c u = (u ≡ (slot f 0, c)) ⊎ (u ≡ (slot g 0, c))

  abbrev pub OutOf : Context → State (NamedPort A) → Type 0
  OutOf c u =
      ((s : ℕ) × (d : Context) × (s < arity k) × (up k i s d ≡ c) × (u ≡ (slot f (suc s), d)))
      ⊎ ((s : ℕ) × (d : Context) × (s < arity l) × (up l j s d ≡ c) × (u ≡ (slot g (suc s), d)))

  module _ (is_net : IsNet N) (faces : Faces N f g k i l j)
      (same_name : (x y : A) → (x ≡ y) ⊎ (x ≢ y)) (a : Action) where
    off_aux : (x : A) (s : ℕ) → Off f g (slot x (suc s))
    off_aux x s = record {
      first = λ e. let n : suc s ≡ 0 = cc in absurd (omega arith);
      second = λ e. let n : suc s ≡ 0 = cc in absurd (omega arith);
    }

    off_other : (x : A) (s : ℕ) → x ≢ f → x ≢ g → Off f g (slot x s)
    off_other x s m n = record { first = λ e. m (cc); second = λ e. n (cc) }

    where_is : (p : NamedPort A) → ((p ≡ slot f 0) ⊎ (p ≡ slot g 0)) ⊎ Off f g p
    where_is (free n) = inr (record { first = λ e. absurd (cc); second = λ e. absurd (cc) })
    where_is (slot x (suc s)) = inr (off_aux x s)
    where_is (slot x zero) = go (same_name x f) (same_name x g)
      where
        go : (x ≡ f) ⊎ (x ≢ f) → (x ≡ g) ⊎ (x ≢ g) →
            ((slot x 0 ≡ slot f 0) ⊎ (slot x 0 ≡ slot g 0)) ⊎ Off f g (slot x 0)
        go (inl e) d = inl (inl (ap (λ x. slot x 0) e))
        go (inr m) (inl e) = inl (inr (ap (λ x. slot x 0) e))
        go (inr m) (inr n) = inr (off_other x 0 m n)

    goes : (u : State (NamedPort A)) (c : Context) → MidOf c u → Off f g u.0 → ⊥
    goes u c (inl e) o = o.first (ap (λ (u : State (NamedPort A)). u.0) e)
    goes u c (inr e) o = o.second (ap (λ (u : State (NamedPort A)). u.0) e)

    mid_context : (u : State (NamedPort A)) (c : Context) → MidOf c u → u.1 ≡ c
    mid_context u c (inl e) = ap (λ (u : State (NamedPort A)). u.1) e
    mid_context u c (inr e) = ap (λ (u : State (NamedPort A)). u.1) e

    stay : (u : State (NamedPort A)) (c : Context) → OutOf c u → Off f g u.0
    stay u c (inl t) = subst (λ (u : State (NamedPort A)). Off f g u.0) (sym t.4) (off_aux f t.0)
    stay u c (inr t) = subst (λ (u : State (NamedPort A)). Off f g u.0) (sym t.4) (off_aux g t.0)

    Place : State (NamedPort A) → State (NamedPort A) → Type 0
    Place u v = (Off f g u.0 × Off f g v.0 × After a (as_old u) (as_old v))
        ⊎ (((c : Context) × MidOf c u × MidOf c v)
        ⊎ (((c : Context) × MidOf c u × OutOf c v) ⊎ ((c : Context) × OutOf c u × MidOf c v)))

    linked_f : (q : NamedPort A) → Linked N (slot f 0) q → q ≡ slot g 0
    linked_f q h = is_net.one_link (slot f 0) q (slot g 0) h faces.linked

    linked_g : (q : NamedPort A) → Linked N (slot g 0) q → q ≡ slot f 0
    linked_g q h = is_net.one_link (slot g 0) q (slot f 0) h (linked_sym N (slot f 0) (slot g 0) faces.linked)

    place_link : (p q : NamedPort A) (c : Context) → Linked N p q → Place (p, c) (q, c)
    unfolding Place
    place_link p q c h = go (where_is p) (where_is q)
      where
        go : ((p ≡ slot f 0) ⊎ (p ≡ slot g 0)) ⊎ Off f g p →
            ((q ≡ slot f 0) ⊎ (q ≡ slot g 0)) ⊎ Off f g q → Place (p, c) (q, c)
        go (inl (inl e)) w = inr (inl (
          c,
          inl (ap (λ p. (p, c)) e),
          inr (ap (λ p. (p, c)) (linked_f q (subst (λ p. Linked N p q) e h))),
        ))
        go (inl (inr e)) w = inr (inl (
          c,
          inr (ap (λ p. (p, c)) e),
          inl (ap (λ p. (p, c)) (linked_g q (subst (λ p. Linked N p q) e h))),
        ))
        go (inr o) (inl (inl e)) = absurd (o.second
            (linked_f p (linked_sym N p (slot f 0) (subst (λ q. Linked N p q) e h))))
        go (inr o) (inl (inr e)) = absurd (o.first
            (linked_g p (linked_sym N p (slot g 0) (subst (λ q. Linked N p q) e h))))
        go (inr o) (inr o') = inl (o, o', wire (stays h o o'))

    place_node : (x : A) (m : Kind) (n s : ℕ) (c d : Context) → HasNode N x m n → s < arity m →
        up m n s c ≡ d → Place (slot x 0, d) (slot x (suc s), c)
    unfolding Place
    place_node x m n s c d h b e = go (same_name x f) (same_name x g)
      where
        go : (x ≡ f) ⊎ (x ≢ f) → (x ≡ g) ⊎ (x ≢ g) → Place (slot x 0, d) (slot x (suc s), c)
        go (inl q) w =
            let t = is_net.one_node f m k n i (subst (λ x. HasNode N x m n) q h) faces.first in
            inr (inr (inl (
              d,
              inl (ap (λ x. (slot x 0, d)) q),
              inl (
                s,
                c,
                subst (λ m. s < arity m) t.0 b,
                subst (λ m. up m i s c ≡ d) t.0 (subst (λ n. up m n s c ≡ d) t.1 e),
                ap (λ x. (slot x (suc s), c)) q,
              ),
            )))
        go (inr r) (inl q) =
            let t = is_net.one_node g m l n j (subst (λ x. HasNode N x m n) q h) faces.second in
            inr (inr (inl (
              d,
              inr (ap (λ x. (slot x 0, d)) q),
              inr (
                s,
                c,
                subst (λ m. s < arity m) t.0 b,
                subst (λ m. up m j s c ≡ d) t.0 (subst (λ n. up m n s c ≡ d) t.1 e),
                ap (λ x. (slot x (suc s), c)) q,
              ),
            )))
        go (inr r) (inr r') = inl (off_other x 0 r r', off_aux x s, other_node m n h r r' b e)

    place : (u v : State (NamedPort A)) → Move N u v → Place u v
    place u v (link {p = p} {q = q} {c = c} h) = place_link p q c h
    place u v (node {x = x} {s = s} {c = c} {d = d} m n h b e) = place_node x m n s c d h b e

    rewire_of : ((c : Context) (u v : State (NamedPort A)) → OutOf c u → OutOf c v →
        Joined (After a) (as_old u) (as_old v)) → Rewire (Move N) as_old (After a) (λ u. Off f g u.0) MidOf OutOf
    unfolding Place
    rewire_of out = record {
      goes = goes;
      one = λ u c d m n. sym (mid_context u c m) ∙ mid_context u d n;
      stay = stay;
      move = place;
      out = out;
    }

    at : {u v : State (NamedPort A)} → u ≡ v → Joined (After a) (as_old u) (as_old v)
    at {u = u} e = subst (λ v. Joined (After a) (as_old u) (as_old v)) e here

    -- two ways out by one node are one way out
    one_way : (x : A) (m : Kind) (n s t : ℕ) (c d e : Context) → s < arity m → t < arity m →
        up m n s c ≡ e → up m n t d ≡ e → ◌≡◌ {A = State (NamedPort A)} (slot x (suc s), c) (slot x (suc t), d)
    one_way x m n s t c d e b b' p q =
        let r = injective m n s t c d b b' (p ∙ sym q) in
        ap (λ s. (slot x (suc s), c)) r.0 ∙ ap (λ c. (slot x (suc t), c)) r.1

    -- out by f and out by g are joined
    Across : Type 0
    Across = (s t : ℕ) (c d : Context) → s < arity k → t < arity l → up k i s c ≡ up l j t d →
        Joined (After a) (old (slot f (suc s)), c) (old (slot g (suc t)), d)

    out_of : Across → (c : Context) (u v : State (NamedPort A)) → OutOf c u → OutOf c v →
        Joined (After a) (as_old u) (as_old v)
    unfolding Across
    out_of h c u v (inl s) (inl t) = at (s.4 ∙ one_way f k i s.0 t.0 s.1 t.1 c s.2 t.2 s.3 t.3 ∙ sym t.4)
    out_of h c u v (inr s) (inr t) = at (s.4 ∙ one_way g l j s.0 t.0 s.1 t.1 c s.2 t.2 s.3 t.3 ∙ sym t.4)
    out_of h c u v (inl s) (inr t) = joined_trans (at s.4)
        (joined_trans (h s.0 t.0 s.1 t.1 s.2 t.2 (s.3 ∙ sym t.3)) (at (sym t.4)))
    out_of h c u v (inr s) (inl t) = joined_trans (at s.4)
        (joined_trans (joined_sym (h t.0 s.0 t.1 s.1 t.2 s.2 (t.3 ∙ sym s.3))) (at (sym t.4)))

    wired : Across → (u v : State (NamedPort A)) → Off f g u.0 → Off f g v.0 → Joined (Move N) u v →
        Joined (After a) (as_old u) (as_old v)
    wired h u v m n w = rewired (rewire_of (out_of h)) u v m n w

  module _ (is_net : IsNet N) (faces : Faces N f g k i l j) (same_name : (x y : A) → (x ≡ y) ⊎ (x ≢ y)) where
    across_meeting : Meets k i l j → Across is_net faces same_name meeting
    unfolding Across
    across_meeting m s t c d b b' e =
        let b2 : t < arity k = subst (λ n. t < n) (sym m.arities) b' in
        let r = injective k i s t c d b b2 (e ∙ sym (m.alike t d b2)) in
        subst (λ t. Joined (After meeting) (old (slot f (suc s)), c) (old (slot g (suc t)), d)) r.0
        (subst (λ d. Joined (After meeting) (old (slot f (suc s)), c) (old (slot g (suc s)), d)) r.1
        (on here (wire (join (meet b)))))

    across_crossing : (j' : ℕ) → Commutes k i l j j' → Across is_net faces same_name (crossing j')
    unfolding Across
    across_crossing j' m s t c d b b' e =
        let r = m.pull s t c d b b' e in
        on (back (back (on (back here (wire (join (at_f b)))) (g_node j' refl b b' r.1))
        (wire (join (between b b')))) (f_node j' refl b b' r.2)) (wire (join (at_g b')))

    -- a state of the step stands for a state before it
    abbrev before : ℕ → Vertex A → Context → State (NamedPort A)
    before j' (old p) c = (p, c)
    before j' (f_copy q zero) c = (slot g (suc q), c)
    before j' (f_copy q (suc p)) c = (slot g (suc q), up k i p c)
    before j' (g_copy p zero) c = (slot f (suc p), c)
    before j' (g_copy p (suc q)) c = (slot f (suc p), up l j' q c)

    across_old : (s t : ℕ) (c d : Context) → s < arity k → t < arity l → up k i s c ≡ up l j t d →
        Joined (Move N) (slot f (suc s), c) (slot g (suc t), d)
    across_old s t c d b b' e = on (on (back here (node k i faces.first b refl))
        (link faces.linked)) (node l j faces.second b' (sym e))

    join_before : (a : Action) → Suits a k i l j → (j' : ℕ) → ((n : ℕ) → a ≡ crossing n → n ≡ j') →
        (u v : Vertex A) (c : Context) → Join N f g k i l j a u v → Joined (Move N) (before j' u c) (before j' v c)
    join_before meeting m j' n u v c (meet {s = s} b) = across_old s s c c b
        (subst (λ x. s < x) m.arities b) (m.alike s c b)
    join_before (crossing j2) m j' n u v c (at_f b) = here
    join_before (crossing j2) m j' n u v c (at_g b) = here
    join_before (crossing j2) m j' n u v c (between {p = p} {q = q} b b') =
        subst (λ x. Joined (Move N) (slot g (suc q), up k i p c) (slot f (suc p), up l x q c)) (n j2 refl)
        (joined_sym (across_old p q (up l j2 q c) (up k i p c) b b' (m.commute p q c b b')))

    move_before : (a : Action) → Suits a k i l j → (j' : ℕ) → ((n : ℕ) → a ≡ crossing n → n ≡ j') →
        (u v : State (Vertex A)) → After a u v → Joined (Move N) (before j' u.0 u.1) (before j' v.0 v.1)
    move_before a m j' n u v (wire (stays h o o')) = on here (link h)
    move_before a m j' n u v (wire {u = x} {v = y} {c = c} (join h)) = join_before a m j' n x y c h
    move_before a m j' n u v (other_node k' i' h x y b e) = on here (node k' i' h b e)
    move_before a m j' n u v (f_node {p = p} {q = q} {c = c} j2 e b b' r) = subst
        (λ d. Joined (Move N) (slot g (suc q), d) (slot g (suc q), up k i p c)) r here
    move_before a m j' n u v (g_node {p = p} {q = q} {c = c} j2 e b b' r) =
        subst (λ d. Joined (Move N) (slot f (suc p), d) (slot f (suc p), up l j' q c)) r
        (subst (λ x. Joined (Move N) (slot f (suc p), up l x q c) (slot f (suc p), up l j' q c)) (sym (n j2 e)) here)

    index_of : Action → ℕ
    index_of meeting = 0
    index_of (crossing j') = j'

    index_is : (a : Action) (n : ℕ) → a ≡ crossing n → n ≡ index_of a
    unfolding index_of
    index_is a n e = ap index_of (sym e)

    across : (a : Action) → Suits a k i l j → Across is_net faces same_name a
    across meeting m = across_meeting m
    across (crossing j') m = across_crossing j' m

    -- States that stay are joined before a step exactly where they are joined after it.
    pub same_joined : (a : Action) → Suits a k i l j → (u v : State (NamedPort A)) → Off f g u.0 → Off f g v.0 →
        Joined (Move N) u v ↔ Joined (After a) (old u.0, u.1) (old v.0, v.1)
    same_joined a m u v o o' = (
      wired is_net faces same_name a (across a m) u v o o',
      joined_image (λ w. before (index_of a) w.0 w.1) (move_before a m (index_of a) (index_is a)),
    )
