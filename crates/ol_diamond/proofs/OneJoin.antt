-- Links, each vertex in one at most, and one join of two vertices a and b, which are taken out:
-- what is left, and what it weighs.
use Rattle.std.proofs.Common.{◌≡◌, ◌≢◌, ℕ, ◌≤◌, max, ◌⊎◌, ◌↔◌, inl, inr, refl, sym, subst, arith}
use Rattle.ol_law_edges.specs.Edges.{Joined, here, on, back, Contracted}
use Rattle.ol_law_edges.proofs.Composing.{joined_keeps, contracted_swap}

-- each vertex has one link at most
pub record AreLinks {V : Type 0} (L : V → V → Type 0) : Type 0 where
  pub swap : (u v : V) → L u v → L v u
  pub one : (u v w : V) → L u v → L u w → v ≡ w
  pub apart : (u : V) → L u u → ⊥

abbrev pub IsOneOf : {V : Type 0} → V → V → V → Type 0
IsOneOf a b u = (u ≡ a) ⊎ (u ≡ b)

-- the join of a and b, where it counts
abbrev pub JoinedAt : {V : Type 0} → V → V → Type 0 → V → V → Type 0
JoinedAt a b C u v = (u ≡ a) × (v ≡ b) × C

-- the links and the join
abbrev pub AndJoin : {V : Type 0} → (V → V → Type 0) → V → V → Type 0 → V → V → Type 0
AndJoin L a b C u v = L u v ⊎ JoinedAt a b C u v

-- where what is joined to u can stand
data Stands {V : Type 0} (L : V → V → Type 0) (a b : V) (C : Type 0) (u z : V) : Type 0 where
  at : z ≡ u → Stands L a b C u z
  next : L u z → Stands L a b C u z
  at_b : C → L u a → z ≡ b → Stands L a b C u z
  past_b : C → L u a → L b z → Stands L a b C u z
  at_a : C → L u b → z ≡ a → Stands L a b C u z
  past_a : C → L u b → L a z → Stands L a b C u z

-- what is left: a link, or two that the join made one
pub data Left {V : Type 0} (L : V → V → Type 0) (a b : V) (C : Type 0) (u v : V) : Type 0 where
  linked : L u v → Left L a b C u v
  by_a : C → L u a → L b v → Left L a b C u v
  by_b : C → L u b → L a v → Left L a b C u v

module _ {V : Type 0} (L : V → V → Type 0) (links : AreLinks L) (a b : V) (differ : a ≢ b) (C : Type 0) where
  along : (u z z' : V) → L z z' → Stands L a b C u z → Stands L a b C u z'
  along u z z' h (at e) = next (subst (λ x. L x z') e h)
  along u z z' h (next k) = at (links.one z z' u h (links.swap u z k))
  along u z z' h (at_b c k e) = past_b c k (subst (λ x. L x z') e h)
  along u z z' h (past_b c k l) = at_b c k (links.one z z' b h (links.swap b z l))
  along u z z' h (at_a c k e) = past_a c k (subst (λ x. L x z') e h)
  along u z z' h (past_a c k l) = at_a c k (links.one z z' a h (links.swap a z l))

  -- over the join
  to_b : (u : V) → (IsOneOf a b u → ⊥) → C → Stands L a b C u a → Stands L a b C u b
  to_b u n c (at e) = absurd (n (inl (sym e)))
  to_b u n c (next k) = at_b c k refl
  to_b u n c (at_b d k e) = absurd (differ e)
  to_b u n c (past_b d k l) = absurd (n (inr (links.one a u b (links.swap u a k) (links.swap b a l))))
  to_b u n c (at_a d k e) = next k
  to_b u n c (past_a d k l) = absurd (links.apart a l)

  to_a : (u : V) → (IsOneOf a b u → ⊥) → C → Stands L a b C u b → Stands L a b C u a
  to_a u n c (at e) = absurd (n (inr (sym e)))
  to_a u n c (next k) = at_a c k refl
  to_a u n c (at_b d k e) = next k
  to_a u n c (past_b d k l) = absurd (links.apart b l)
  to_a u n c (at_a d k e) = absurd (differ (sym e))
  to_a u n c (past_a d k l) = absurd (n (inl (links.one b u a (links.swap u b k) (links.swap a b l))))

  forth : (u : V) → (IsOneOf a b u → ⊥) → (z z' : V) → AndJoin L a b C z z' → Stands L a b C u z → Stands L a b C u z'
  forth u n z z' (inl h) s = along u z z' h s
  forth u n z z' (inr h) s = subst (λ x. Stands L a b C u x) (sym h.1)
      (to_b u n h.2 (subst (λ x. Stands L a b C u x) h.0 s))

  back_to : (u : V) → (IsOneOf a b u → ⊥) → (z z' : V) → AndJoin L a b C z z' → Stands L a b C u z' → Stands L a b C u z
  back_to u n z z' (inl h) s = along u z' z (links.swap z z' h) s
  back_to u n z z' (inr h) s = subst (λ x. Stands L a b C u x) (sym h.0)
      (to_a u n h.2 (subst (λ x. Stands L a b C u x) h.1 s))

  pub left_of : (u v : V) → Contracted (AndJoin L a b C) (IsOneOf a b) u v → Left L a b C u v
  left_of u v c = go (joined_keeps (Stands L a b C u) (forth u c.first) (back_to u c.first) c.joined (at refl))
    where
      go : Stands L a b C u v → Left L a b C u v
      go (at e) = absurd (c.apart (sym e))
      go (next k) = linked k
      go (at_b d k e) = absurd (c.second (inr e))
      go (past_b d k l) = by_a d k l
      go (at_a d k e) = absurd (c.second (inl e))
      go (past_a d k l) = by_b d k l

  apart_of : (u v : V) → Left L a b C u v → u ≢ v
  apart_of u v (linked h) e = links.apart u (subst (λ x. L u x) (sym e) h)
  apart_of u v (by_a c k l) e = differ (links.one u a b k (links.swap b u (subst (λ x. L b x) (sym e) l)))
  apart_of u v (by_b c k l) e = differ (links.one u a b (links.swap a u (subst (λ x. L a x) (sym e) l)) k)

  pub of_left : (u v : V) → (IsOneOf a b u → ⊥) → (IsOneOf a b v → ⊥) → Left L a b C u v →
      Contracted (AndJoin L a b C) (IsOneOf a b) u v
  of_left u v n m h = record { first = n; second = m; apart = apart_of u v h; joined = go h }
    where
      go : Left L a b C u v → Joined (AndJoin L a b C) u v
      go (linked k) = on here (inl k)
      go (by_a c k l) = on (on (on here (inl k)) (inr (refl, refl, c))) (inl l)
      go (by_b c k l) = on (back (on here (inl k)) (inr (refl, refl, c))) (inl l)

  one_left : (u v w : V) → (IsOneOf a b v → ⊥) → (IsOneOf a b w → ⊥) → Left L a b C u v → Left L a b C u w → v ≡ w
  one_left u v w m n (linked h) (linked k) = links.one u v w h k
  one_left u v w m n (linked h) (by_a c k l) = absurd (m (inl (links.one u v a h k)))
  one_left u v w m n (linked h) (by_b c k l) = absurd (m (inr (links.one u v b h k)))
  one_left u v w m n (by_a c k l) (linked h) = absurd (n (inl (links.one u w a h k)))
  one_left u v w m n (by_a c k l) (by_a d k' l') = links.one b v w l l'
  one_left u v w m n (by_a c k l) (by_b d k' l') = absurd (differ (links.one u a b k k'))
  one_left u v w m n (by_b c k l) (linked h) = absurd (n (inr (links.one u w b h k)))
  one_left u v w m n (by_b c k l) (by_a d k' l') = absurd (differ (links.one u a b k' k))
  one_left u v w m n (by_b c k l) (by_b d k' l') = links.one a v w l l'

  -- what is left are links
  pub links_left : AreLinks (Contracted (AndJoin L a b C) (IsOneOf a b))
  links_left = record {
    swap = λ u v c. contracted_swap c;
    one = λ u v w c d. one_left u v w c.second d.second (left_of u v c) (left_of u w d);
    apart = λ u c. c.apart refl;
  }

-- these are the links that weigh n at most
abbrev pub AreWithin : {V : Type 0} → (V → V → Type 0) → (V → V → ℕ) → (ℕ → V → V → Type 0) → Type 0
AreWithin {V} L W K = (n : ℕ) (u v : V) → K n u v ↔ (L u v × (W u v ≤ n))

-- The links weigh W, and the join this. Of two links that became one the greatest weight stays.
pub record StaysGreatest {V : Type 0} (L : V → V → Type 0) (W : V → V → ℕ) (a b : V) (wave : ℕ)
    (W' : V → V → ℕ) : Type 0 where
  pub same : (u v : V) → (IsOneOf a b u → ⊥) → (IsOneOf a b v → ⊥) → L u v → W' u v ≡ W u v
  pub by_a : (u v : V) → (IsOneOf a b u → ⊥) → (IsOneOf a b v → ⊥) → L u a → L b v →
      W' u v ≡ max (W u a) (max wave (W b v))
  pub by_b : (u v : V) → (IsOneOf a b u → ⊥) → (IsOneOf a b v → ⊥) → L u b → L a v →
      W' u v ≡ max (W u b) (max wave (W a v))

module _ {V : Type 0} (L : V → V → Type 0) (links : AreLinks L) (W : V → V → ℕ)
    (swap : (u v : V) → W u v ≡ W v u) (K : ℕ → V → V → Type 0) (within : AreWithin L W K) (a b : V)
    (differ : a ≢ b) (C : Type 0)
    (wave : ℕ) (W' : V → V → ℕ) (stays : StaysGreatest L W a b wave W') where
  some : (n : ℕ) → AreLinks (K n)
  some n = record {
    swap = λ u v h. let t = (within n u v).0 h in
        (within n v u).1 (links.swap u v t.0, subst (λ x. x ≤ n) (swap u v) t.1);
    one = λ u v w h k. links.one u v w ((within n u v).0 h).0 ((within n u w).0 k).0;
    apart = λ u h. links.apart u ((within n u u).0 h).0;
  }

  abbrev Whole : V → V → Type 0
  Whole = Contracted (AndJoin L a b C) (IsOneOf a b)

  abbrev Some : ℕ → V → V → Type 0
  Some n = Contracted (AndJoin (K n) a b (C × (wave ≤ n))) (IsOneOf a b)

  pub within_left : AreWithin Whole W' Some
  within_left n u v = (to, from)
    where
      to : Some n u v → Whole u v × (W' u v ≤ n)
      to c = go (left_of (K n) (some n) a b differ (C × (wave ≤ n)) u v c)
        where
          whole : Left L a b C u v → Whole u v
          whole h = of_left L links a b differ C u v c.first c.second h

          go : Left (K n) a b (C × (wave ≤ n)) u v → Whole u v × (W' u v ≤ n)
          go (linked h) =
              let t = (within n u v).0 h in
              (whole (linked t.0), subst (λ x. x ≤ n) (sym (stays.same u v c.first c.second t.0)) t.1)
          go (by_a (x, y) k l) =
              let t = (within n u a).0 k in
              let s = (within n b v).0 l in
              let p = t.1 in
              let q = s.1 in
              (whole (by_a x t.0 s.0), subst (λ x. x ≤ n) (sym (stays.by_a u v c.first c.second t.0 s.0)) (omega arith))
          go (by_b (x, y) k l) =
              let t = (within n u b).0 k in
              let s = (within n a v).0 l in
              let p = t.1 in
              let q = s.1 in
              (whole (by_b x t.0 s.0), subst (λ x. x ≤ n) (sym (stays.by_b u v c.first c.second t.0 s.0)) (omega arith))

      from : Whole u v × (W' u v ≤ n) → Some n u v
      from (c, m) = go (left_of L links a b differ C u v c)
        where
          these : Left (K n) a b (C × (wave ≤ n)) u v → Some n u v
          these h = of_left (K n) (some n) a b differ (C × (wave ≤ n)) u v c.first c.second h

          go : Left L a b C u v → Some n u v
          go (linked k) = these (linked ((within n u v).1
              (k, subst (λ x. x ≤ n) (stays.same u v c.first c.second k) m)))
          go (by_a x k l) =
              let z : max (W u a) (max wave (W b v)) ≤ n = subst (λ x. x ≤ n) (stays.by_a u v c.first c.second k l) m in
              these (by_a (x, omega arith) ((within n u a).1 (k, omega arith)) ((within n b v).1 (l, omega arith)))
          go (by_b x k l) =
              let z : max (W u b) (max wave (W a v)) ≤ n = subst (λ x. x ≤ n) (stays.by_b u v c.first c.second k l) m in
              these (by_b (x, omega arith) ((within n u b).1 (k, omega arith)) ((within n a v).1 (l, omega arith)))
