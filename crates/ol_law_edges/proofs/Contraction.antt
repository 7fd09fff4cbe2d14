-- Contraction keeps what is joined.
use Rattle.std.proofs.Common.{◌≡◌, ◌≢◌, ℕ, ◌+◌, ◌≤◌, List, [], ◌∷◌, Bool, true, false, cond, Option}
use Rattle.std.proofs.Common.{Some, None, ◌⊎◌, ◌↔◌, inl, inr, refl, sym, ap, ◌∙◌, subst, arith}
use Rattle.ol_law_edges.specs.Edges.{IsIn, Joined, here, on, back, EdgeOf, IsTest, behind, taken, Ready}
use Rattle.ol_law_edges.specs.Edges.{spliced, once_taken, contract, contract_all, bit, ends, Near}
use Rattle.ol_law_edges.proofs.Joining.{joined_trans, joined_sym, joined_map, Follows, follow}

-- the list once_taken one edge between p and x
pub data Take {V : Type 0} (p x : V) : List (V × V) → List (V × V) → Type 0 where
  left : {es : List (V × V)} → Take p x ((p, x) ∷ es) es
  right : {es : List (V × V)} → Take p x ((x, p) ∷ es) es
  later : {e : V × V} {es rest : List (V × V)} → Take p x es rest → Take p x (e ∷ es) (e ∷ rest)

-- what holds of the edge taken, both ways, and of those left, holds of each edge
take_elim : {V : Type 0} {p x : V} {es rest : List (V × V)} → Take p x es rest →
    (P : V → V → Type 0) → P p x → P x p → ((a b : V) → IsIn (a, b) rest → P a b) → (a b : V) → IsIn (a, b) es → P a b
take_elim left P l r f a b (inl q) = subst (λ (d : _ × _). P d.0 d.1) (sym q) l
take_elim left P l r f a b (inr h) = f a b h
take_elim right P l r f a b (inl q) = subst (λ (d : _ × _). P d.0 d.1) (sym q) r
take_elim right P l r f a b (inr h) = f a b h
take_elim (later k) P l r f a b (inl q) = f a b (inl q)
take_elim (later k) P l r f a b (inr h) = take_elim k P l r (λ a b h. f a b (inr h)) a b h

-- the edges left are edges
take_keeps : {V : Type 0} {p x : V} {es rest : List (V × V)} → Take p x es rest → (d : V × V) → IsIn d rest → IsIn d es
take_keeps left d h = inr h
take_keeps right d h = inr h
take_keeps (later k) d (inl q) = inl q
take_keeps (later k) d (inr h) = inr (take_keeps k d h)

-- the edge taken joins
take_joins : {V : Type 0} {p x : V} {fs rest : List (V × V)} → Take p x fs rest →
    (es : List (V × V)) → ((d : V × V) → IsIn d fs → IsIn d es) → Joined (EdgeOf es) p x
take_joins {p = p} {x = x} left es f = on here (f (p, x) (inl refl))
take_joins {p = p} {x = x} right es f = back here (f (x, p) (inl refl))
take_joins (later k) es f = take_joins k es (λ d h. f d (inr h))

-- p taken out
pub data Contracts {V : Type 0} (same : V → V → Bool) (p : V) : List (V × V) → List (V × V) → Type 0 where
  stays : {es : List (V × V)} → ends same p es ≤ 1 → Contracts same p es es
  loop : {es rest : List (V × V)} → Take p p es rest → Contracts same p es rest
  splice : {x y : V} {es rest left : List (V × V)} → x ≢ p → Take p x es rest → Take p y rest left →
      Contracts same p es ((x, y) ∷ left)

-- each vertex stands for itself, and p for its neighbour
data Image {V : Type 0} (p x : V) : V → V → Type 0 where
  kept : {u : V} → u ≢ p → Image p x u u
  gone : Image p x p x

image_at : {V : Type 0} {p x : V} {v w : V} → Image p x v w → x ≢ p → v ≡ x → w ≡ x
image_at (kept m) n q = q
image_at gone n q = refl

image_of : {V : Type 0} {p x : V} {v w : V} → Image p x v w → v ≡ p → w ≡ x
image_of (kept m) q = absurd (m q)
image_of gone q = refl

image_other : {V : Type 0} {p x : V} {v w : V} → Image p x v w → v ≢ p → w ≡ v
image_other (kept m) q = refl
image_other gone q = absurd (q refl)

-- an edge is followed both ways
Followed : {V : Type 0} → V → V → List (V × V) → V → V → Type 0
Followed {V} p x fs a b =
    ((w : V) → Image p x b w → (z : V) × Image p x a z × Joined (EdgeOf fs) z w)
    × ((w : V) → Image p x a w → (z : V) × Image p x b z × Joined (EdgeOf fs) z w)

at_here : {V : Type 0} {E : V → V → Type 0} {u w : V} → w ≡ u → Joined E u w
at_here {E = E} {u = u} q = subst (λ w. Joined E u w) (sym q) here

followed_swap : {V : Type 0} (p x : V) (fs : List (V × V)) (a b : V) → Followed p x fs a b → Followed p x fs b a
unfolding Followed
followed_swap p x fs a b f = (f.1, f.0)

followed_first : {V : Type 0} (p x : V) (fs : List (V × V)) → x ≢ p → Followed p x fs p x
unfolding Followed
followed_first p x fs m = (λ w i. (x, gone, at_here (image_at i m refl)), λ w i. (x, kept m, at_here (image_of i refl)))

followed_loop : {V : Type 0} (p : V) (fs : List (V × V)) → Followed p p fs p p
unfolding Followed
followed_loop p fs = (λ w i. (p, gone, at_here (image_of i refl)), λ w i. (p, gone, at_here (image_of i refl)))

followed_second : {V : Type 0} (p x y : V) (ls : List (V × V)) → y ≢ p → Followed p x ((x, y) ∷ ls) p y
unfolding Followed
followed_second {V} p x y ls n = (
  λ w i. (x, gone, subst (λ v. Joined (EdgeOf ((x, y) ∷ ls)) x v) (sym (image_other i n)) (on here (inl refl))),
  λ w i. (y, kept n, subst (λ v. Joined (EdgeOf ((x, y) ∷ ls)) y v) (sym (image_of i refl)) (back here (inl refl))),
)

followed_other : {V : Type 0} (p x : V) (fs : List (V × V)) (a b : V) → a ≢ p → b ≢ p →
    IsIn (a, b) fs → Followed p x fs a b
unfolding Followed
followed_other p x fs a b m n h = (
  λ w i. (a, kept m, subst (λ v. Joined (EdgeOf fs) a v) (sym (image_other i n)) (on here h)),
  λ w i. (b, kept n, subst (λ v. Joined (EdgeOf fs) b v) (sym (image_other i m)) (back here h)),
)

followed_all : {V : Type 0} (p x : V) (es fs : List (V × V)) →
    ((a b : V) → IsIn (a, b) es → Followed p x fs a b) → Follows (EdgeOf es) (EdgeOf fs) (Image p x)
unfolding Followed
followed_all p x es fs f = record { forth = λ a b w e i. (f a b e).0 w i; back' = λ a b w e i. (f a b e).1 w i }

module _ {V : Type 0} (same : V → V → Bool) (t : IsTest same) where
  taken_take : (p : V) (es : List (V × V)) (r : V × List (V × V)) → taken same p es ≡ Some r → Take p r.0 es r.1
  taken_take p [] r h = absurd (cc)
  taken_take p (e ∷ es) r h = first (taken_take p es) (same p e.0) refl h
    where
      later_one : (o : Option (V × List (V × V))) →
          ((r : V × List (V × V)) → o ≡ Some r → Take p r.0 es r.1) → behind e o ≡ Some r → Take p r.0 (e ∷ es) r.1
      later_one None f h = absurd (cc)
      later_one (Some q) f h = let k : ◌≡◌ {A = V × List (V × V)} (q.0, e ∷ q.1) r = cc in
          subst (λ (r : V × List (V × V)). Take p r.0 (e ∷ es) r.1) k (later (f q refl))

      second : ((r : V × List (V × V)) → taken same p es ≡ Some r → Take p r.0 es r.1) →
          (b : Bool) → same p e.1 ≡ b → cond b (Some (e.0, es))
          (behind e (taken same p es)) ≡ Some r → Take p r.0 (e ∷ es) r.1
      second ih true q h = let k : ◌≡◌ {A = V × List (V × V)} (e.0, es) r = cc in
          subst (λ (r : V × List (V × V)). Take p r.0 (e ∷ es) r.1) k
          (subst (λ v. Take p e.0 ((e.0, v) ∷ es) es) (t.tells p e.1 q) right)
      second ih false q h = later_one (taken same p es) ih h

      first : ((r : V × List (V × V)) → taken same p es ≡ Some r → Take p r.0 es r.1) → (b : Bool) →
          same p e.0 ≡ b → cond b (Some (e.1, es))
          (cond (same p e.1) (Some (e.0, es)) (behind e (taken same p es))) ≡ Some r → Take p r.0 (e ∷ es) r.1
      first ih true q h = let k : ◌≡◌ {A = V × List (V × V)} (e.1, es) r = cc in
          subst (λ (r : V × List (V × V)). Take p r.0 (e ∷ es) r.1) k
          (subst (λ v. Take p e.1 ((v, e.1) ∷ es) es) (t.tells p e.0 q) left)
      first ih false q h = second ih (same p e.1) refl h

  -- the ends that an edge takes
  take_ends : {p x : V} {es rest : List (V × V)} → Take p x es rest → (v : V) →
      ends same v es ≡ bit (same v p) + bit (same v x) + ends same v rest
  take_ends left v = refl
  take_ends right v = omega arith
  take_ends (later k) v = omega (arith, take_ends k v)

  -- where no edge has an end
  none_at : (p : V) (es : List (V × V)) → ends same p es ≡ 0 → (a b : V) → IsIn (a, b) es → (a ≢ p) × (b ≢ p)
  none_at p [] h a b k = absurd k
  none_at p (e ∷ es) h a b (inr k) = none_at p es (omega arith) a b k
  none_at p (e ∷ es) h a b (inl q) = (
    λ r. at_left (sym r ∙ ap (λ (d : V × V). d.0) q),
    λ r. at_right (sym r ∙ ap (λ (d : V × V). d.1) q),
  )
    where
      at_left : p ≡ e.0 → ⊥
      at_left r = let n : bit (same p e.0) ≡ 1 = ap bit (subst (λ w. same p w ≡ true) r (t.holds p)) in omega arith

      at_right : p ≡ e.1 → ⊥
      at_right r = let n : bit (same p e.1) ≡ 1 = ap bit (subst (λ w. same p w ≡ true) r (t.holds p)) in omega arith

  is_same : (p : V) → bit (same p p) ≡ 1
  is_same p = ap bit (t.holds p)

  bit_zero : (b : Bool) → bit b ≡ 0 → b ≡ false
  bit_zero true h = absurd (omega arith)
  bit_zero false h = refl

  pub not_same : (p x : V) → same p x ≡ false → x ≢ p
  not_same p x h q = let k : same p x ≡ true = subst (λ w. same p w ≡ true) (sym q) (t.holds p) in cc

  pub is_other : (p x : V) → x ≢ p → same p x ≡ false
  is_other p x n = go (same p x) refl
    where
      go : (b : Bool) → same p x ≡ b → b ≡ false
      go true h = absurd (n (sym (t.tells p x h)))
      go false h = refl

  pub is_or_is_not : (p x : V) → (x ≡ p) ⊎ (x ≢ p)
  is_or_is_not p x = go (same p x) refl
    where
      go : (b : Bool) → same p x ≡ b → (x ≡ p) ⊎ (x ≢ p)
      go true h = inl (sym (t.tells p x h))
      go false h = inr (not_same p x h)

  -- where no edge was found, none has an end
  taken_none : (p : V) (es : List (V × V)) → taken same p es ≡ None → ends same p es ≡ 0
  taken_none p [] h = refl
  taken_none p (e ∷ es) h = first (taken_none p es) (same p e.0) refl h
    where
      later_one : (o : Option (V × List (V × V))) → behind e o ≡ None → o ≡ None
      later_one None h = refl
      later_one (Some q) h = absurd (cc)

      second : (taken same p es ≡ None → ends same p es ≡ 0) → same p e.0 ≡ false → (b : Bool) →
          same p e.1 ≡ b → cond b (Some (e.0, es)) (behind e (taken same p es)) ≡ None →
          bit (same p e.0) + bit (same p e.1) + ends same p es ≡ 0
      second ih a true q h = absurd (cc)
      second ih a false q h =
          let z = ih (later_one (taken same p es) h) in
          let z0 : bit (same p e.0) ≡ 0 = ap bit a in
          let z1 : bit (same p e.1) ≡ 0 = ap bit q in
          omega arith

      first : (taken same p es ≡ None → ends same p es ≡ 0) → (b : Bool) → same p e.0 ≡ b →
          cond b (Some (e.1, es)) (cond (same p e.1) (Some (e.0, es))
          (behind e (taken same p es))) ≡ None → bit (same p e.0) + bit (same p e.1) + ends same p es ≡ 0
      first ih true q h = absurd (cc)
      first ih false q h = second ih q (same p e.1) refl h

  contract_contracts : (p : V) (es : List (V × V)) → Contracts same p es (contract same p es)
  unfolding contract
  contract_contracts p es = go (taken same p es) refl
    where
      two : (r : V × List (V × V)) → Take p r.0 es r.1 → r.0 ≢ p → (o : Option (V × List (V × V))) →
          taken same p r.1 ≡ o → Contracts same p es (spliced r.0 es o)
      two r k n None h =
          let z = taken_none p r.1 h in
          let i = is_same p in
          let f : bit (same p r.0) ≡ 0 = ap bit (is_other p r.0 n) in
          let e = take_ends k p in
          stays (omega arith)
      two r k n (Some s) h = splice n k (taken_take p r.1 s h)

      one : (r : V × List (V × V)) → Take p r.0 es r.1 → (b : Bool) → same p r.0 ≡ b →
          Contracts same p es (cond b r.1 (spliced r.0 es (taken same p r.1)))
      one r k true h = loop (subst (λ x. Take p x es r.1) (sym (t.tells p r.0 h)) k)
      one r k false h = two r k (not_same p r.0 h) (taken same p r.1) refl

      go : (o : Option (V × List (V × V))) → taken same p es ≡ o → Contracts same p es (once_taken same p es o)
      go None h = let z = taken_none p es h in stays (omega arith)
      go (Some r) h = one r (taken_take p es r h) (same p r.0) refl

  -- what is joined stays joined
  pub contract_keeps : (p : V) {es fs : List (V × V)} → Contracts same p es fs →
      ends same p es ≤ 2 → (u v : V) → u ≢ p → v ≢ p → Joined (EdgeOf es) u v → Joined (EdgeOf fs) u v
  contract_keeps p (stays l) n u v a b j = j
  contract_keeps p (loop {es = es} {rest = rest} k) n u v a b j =
      let n1 = take_ends k p in
      let i = is_same p in
      let z : ends same p rest ≡ 0 = omega arith in
      let no = none_at p rest z in
      let same' = followed_loop p rest in
      let t = follow (followed_all p p es rest
      (take_elim k (Followed p p rest) same' same'
      (λ a b h. followed_other p p rest a b (no a b h).0 (no a b h).1 h))) j v (kept b) in
      subst (λ z. Joined (EdgeOf rest) z v) (image_other t.1 a) t.2
  contract_keeps p (splice {x = x} {y = y} {es = es} {rest = rest} {left = ls} m k k') n u v a b j =
      let n1 = take_ends k p in
      let n2 = take_ends k' p in
      let i = is_same p in
      let z : ends same p ls ≡ 0 = omega arith in
      let zy : bit (same p y) ≡ 0 = omega arith in
      let ny : y ≢ p = not_same p y (bit_zero (same p y) zy) in
      let no = none_at p ls z in
      let fs : List (V × V) = (x, y) ∷ ls in
      let first = followed_first p x fs m in
      let second = followed_second p x y ls ny in
      let t = follow (followed_all p x es fs (take_elim k (Followed p x fs) first (followed_swap p x fs p x first)
      (take_elim k' (Followed p x fs) second (followed_swap p x fs p y second)
      (λ a b h. followed_other p x fs a b (no a b h).0 (no a b h).1 (inr h))))) j v (kept b) in
      subst (λ z. Joined (EdgeOf fs) z v) (image_other t.1 a) t.2

  -- and no more is joined
  pub contract_adds : (p : V) {es fs : List (V × V)} → Contracts same p es fs → (u v : V) →
      Joined (EdgeOf fs) u v → Joined (EdgeOf es) u v
  contract_adds p (stays l) u v j = j
  contract_adds p (loop k) u v j = joined_map (λ a b h. on here (take_keeps k (a, b) h)) j
  contract_adds p (splice {x = x} {y = y} {es = es} {rest = rest} {left = ls} m k k') u v j = joined_map edge j
    where
      near : Joined (EdgeOf es) p y
      near = take_joins k' es (take_keeps k)

      edge : (a b : V) → IsIn (a, b) ((x, y) ∷ ls) → Joined (EdgeOf es) a b
      edge a b (inl q) = subst (λ (d : V × V). Joined (EdgeOf es) d.0 d.1) (sym q)
          (joined_trans (joined_sym (take_joins k es (λ d h. h))) near)
      edge a b (inr h) = on here (take_keeps k (a, b) (take_keeps k' (a, b) h))

  -- the other ends stay
  contract_ends : (p : V) {es fs : List (V × V)} → Contracts same p es fs → (v : V) → v ≢ p →
      ends same v fs ≡ ends same v es
  contract_ends p (stays l) v n = refl
  contract_ends p (loop k) v n =
      let e = take_ends k v in
      let f : bit (same v p) ≡ 0 = ap bit (is_other v p (λ q. n (sym q))) in
      omega arith
  contract_ends p (splice m k k') v n =
      let e = take_ends k v in
      let e' = take_ends k' v in
      let f : bit (same v p) ≡ 0 = ap bit (is_other v p (λ q. n (sym q))) in
      omega arith

  -- and a vertex with two ends, or none, has none then
  contract_gone : (p : V) {es fs : List (V × V)} → Contracts same p es fs →
      (ends same p es ≡ 2) ⊎ (ends same p es ≡ 0) → ends same p fs ≡ 0
  contract_gone p (stays l) d = omega arith
  contract_gone p (loop k) d =
      let e = take_ends k p in
      let i = is_same p in
      omega arith
  contract_gone p (splice {x = x} {y = y} m k k') d =
      let e = take_ends k p in
      let e' = take_ends k' p in
      let i = is_same p in
      let f : bit (same p x) ≡ 0 = ap bit (is_other p x m) in
      omega arith

  pub record Done (ps : List V) (es fs : List (V × V)) : Type 0 where
    pub none : (p : V) → IsIn p ps → ends same p fs ≡ 0
    pub ends_stay : (v : V) → ¬ (IsIn v ps) → ends same v fs ≡ ends same v es
    pub joins : (u v : V) → ¬ (IsIn u ps) → ¬ (IsIn v ps) → Joined (EdgeOf es) u v → Joined (EdgeOf fs) u v
    pub joined : (u v : V) → Joined (EdgeOf fs) u v → Joined (EdgeOf es) u v

  pub is_in : (q : V) (ps : List V) → IsIn q ps ⊎ ¬ (IsIn q ps)
  is_in q [] = inr (λ k. k)
  is_in q (p ∷ ps) = go (is_or_is_not p q) (is_in q ps)
    where
      go : (q ≡ p) ⊎ (q ≢ p) → IsIn q ps ⊎ ¬ (IsIn q ps) → IsIn q (p ∷ ps) ⊎ ¬ (IsIn q (p ∷ ps))
      go (inl e) d = inl (inl e)
      go (inr n) (inl i) = inl (inr i)
      go (inr n) (inr i) = inr no
        where
          no : IsIn q (p ∷ ps) → ⊥
          no (inl e) = n e
          no (inr k) = i k

  pub contracted : (ps : List V) (es : List (V × V)) →
      ((p : V) → IsIn p ps → (ends same p es ≡ 2) ⊎ (ends same p es ≡ 0)) → Done ps es (contract_all same ps es)
  contracted [] es h = record {
    none = λ p k. absurd k;
    ends_stay = λ v k. refl;
    joins = λ u v a b j. j;
    joined = λ u v j. j;
  }
  contracted (p ∷ ps) es h =
      let c = contract_contracts p es in
      let gone = contract_gone p c (h p (inl refl)) in
      let d = contracted ps (contract same p es) (λ q k. still q (is_or_is_not p q) k) in
      record {
        none = λ q k. none_left q gone d k (is_in q ps);
        ends_stay = λ v k. d.ends_stay v (λ q. k (inr q)) ∙ contract_ends p c v (λ q. k (inl q));
        joins = λ u v a b j. d.joins u v (λ q. a (inr q)) (λ q. b (inr q))
            (contract_keeps p c (two_at_most (h p (inl refl))) u v (λ q. a (inl q)) (λ q. b (inl q)) j);
        joined = λ u v j. contract_adds p c u v (d.joined u v j);
      }
    where
      two_at_most : {n : ℕ} → (n ≡ 2) ⊎ (n ≡ 0) → n ≤ 2
      two_at_most (inl e) = omega arith
      two_at_most (inr e) = omega arith

      none_left : (q : V) → ends same p (contract same p es) ≡ 0 →
          Done ps (contract same p es) (contract_all same ps (contract same p es)) →
          IsIn q (p ∷ ps) → IsIn q ps ⊎ ¬ (IsIn q ps) → ends same q (contract_all same ps (contract same p es)) ≡ 0
      none_left q g d k (inl i) = d.none q i
      none_left q g d (inr i) (inr n) = absurd (n i)
      none_left q g d (inl e) (inr n) = d.ends_stay q n ∙ subst (λ q. ends same q (contract same p es) ≡ 0) (sym e) g

      still : (q : V) → (q ≡ p) ⊎ (q ≢ p) → IsIn q ps →
          (ends same q (contract same p es) ≡ 2) ⊎ (ends same q (contract same p es) ≡ 0)
      still q (inl e) k = inr (subst (λ q. ends same q (contract same p es) ≡ 0) (sym e)
          (contract_gone p (contract_contracts p es) (h p (inl refl))))
      still q (inr n) k = subst (λ z. (z ≡ 2) ⊎ (z ≡ 0))
          (sym (contract_ends p (contract_contracts p es) q n)) (h q (inr k))

  pub ends_in : (v w : V) (es : List (V × V)) → IsIn (v, w) es ⊎ IsIn (w, v) es → 1 ≤ ends same v es
  ends_in v w [] (inl k) = absurd k
  ends_in v w [] (inr k) = absurd k
  ends_in v w (e ∷ es) (inl (inl q)) = let s : bit (same v e.0) ≡ 1 = ap bit
      (subst (λ z. same v z ≡ true) (ap (λ (d : V × V). d.0) q) (t.holds v)) in omega arith
  ends_in v w (e ∷ es) (inl (inr k)) = let i = ends_in v w es (inl k) in omega arith
  ends_in v w (e ∷ es) (inr (inl q)) = let s : bit (same v e.1) ≡ 1 = ap bit
      (subst (λ z. same v z ≡ true) (ap (λ (d : V × V). d.1) q) (t.holds v)) in omega arith
  ends_in v w (e ∷ es) (inr (inr k)) = let i = ends_in v w es (inr k) in omega arith

  pub ends_loop : (v : V) (es : List (V × V)) → IsIn (v, v) es → 2 ≤ ends same v es
  ends_loop v [] k = absurd k
  ends_loop v (e ∷ es) (inr k) = let i = ends_loop v es k in omega arith
  ends_loop v (e ∷ es) (inl q) =
      let l = ap bit (subst (λ z. same v z ≡ true) (ap (λ (d : V × V). d.0) q) (t.holds v)) in
      let r = ap bit (subst (λ z. same v z ≡ true) (ap (λ (d : V × V). d.1) q) (t.holds v)) in
      omega arith

  -- An edge at v, as its one end.
  end_left : (v w : V) (e : V × V) → ◌≡◌ {A = V × V} (v, w) e → (bit (same v e.0) ≡ 1) × (w ≡ e.1)
  end_left v w e q = (
    ap bit (subst (λ z. same v z ≡ true) (ap (λ (d : V × V). d.0) q) (t.holds v)),
    ap (λ (d : V × V). d.1) q,
  )

  end_right : (v w : V) (e : V × V) → ◌≡◌ {A = V × V} (w, v) e → (bit (same v e.1) ≡ 1) × (w ≡ e.0)
  end_right v w e q = (
    ap bit (subst (λ z. same v z ≡ true) (ap (λ (d : V × V). d.1) q)
        (t.holds v)),
    ap (λ (d : V × V). d.0) q,
  )

  -- a vertex with one end at most has one neighbour at most
  pub one_edge : (v u w : V) (es : List (V × V)) → ends same v es ≤ 1 →
      IsIn (v, u) es ⊎ IsIn (u, v) es → IsIn (v, w) es ⊎ IsIn (w, v) es → u ≡ w
  one_edge v u w [] h (inl k) l = absurd k
  one_edge v u w [] h (inr k) l = absurd k
  one_edge v u w (e ∷ es) h (inl (inl q)) (inl (inl r)) = (end_left v u e q).1 ∙ sym (end_left v w e r).1
  one_edge v u w (e ∷ es) h (inl (inl q)) (inr (inl r)) = let a = (end_left v u e q).0 in
      let b = (end_right v w e r).0 in absurd (omega arith)
  one_edge v u w (e ∷ es) h (inr (inl q)) (inl (inl r)) = let a = (end_right v u e q).0 in
      let b = (end_left v w e r).0 in absurd (omega arith)
  one_edge v u w (e ∷ es) h (inr (inl q)) (inr (inl r)) = (end_right v u e q).1 ∙ sym (end_right v w e r).1
  one_edge v u w (e ∷ es) h (inl (inl q)) (inl (inr r)) = let a = (end_left v u e q).0 in
      let b = ends_in v w es (inl r) in absurd (omega arith)
  one_edge v u w (e ∷ es) h (inl (inl q)) (inr (inr r)) = let a = (end_left v u e q).0 in
      let b = ends_in v w es (inr r) in absurd (omega arith)
  one_edge v u w (e ∷ es) h (inr (inl q)) (inl (inr r)) = let a = (end_right v u e q).0 in
      let b = ends_in v w es (inl r) in absurd (omega arith)
  one_edge v u w (e ∷ es) h (inr (inl q)) (inr (inr r)) = let a = (end_right v u e q).0 in
      let b = ends_in v w es (inr r) in absurd (omega arith)
  one_edge v u w (e ∷ es) h (inl (inr q)) (inl (inl r)) = let a = (end_left v w e r).0 in
      let b = ends_in v u es (inl q) in absurd (omega arith)
  one_edge v u w (e ∷ es) h (inr (inr q)) (inl (inl r)) = let a = (end_left v w e r).0 in
      let b = ends_in v u es (inr q) in absurd (omega arith)
  one_edge v u w (e ∷ es) h (inl (inr q)) (inr (inl r)) = let a = (end_right v w e r).0 in
      let b = ends_in v u es (inl q) in absurd (omega arith)
  one_edge v u w (e ∷ es) h (inr (inr q)) (inr (inl r)) = let a = (end_right v w e r).0 in
      let b = ends_in v u es (inr q) in absurd (omega arith)
  one_edge v u w (e ∷ es) h (inl (inr q)) (inl (inr r)) = one_edge v u w es (omega arith) (inl q) (inl r)
  one_edge v u w (e ∷ es) h (inl (inr q)) (inr (inr r)) = one_edge v u w es (omega arith) (inl q) (inr r)
  one_edge v u w (e ∷ es) h (inr (inr q)) (inl (inr r)) = one_edge v u w es (omega arith) (inr q) (inl r)
  one_edge v u w (e ∷ es) h (inr (inr q)) (inr (inr r)) = one_edge v u w es (omega arith) (inr q) (inr r)

  -- where each vertex has one end at most, what is joined is one edge
  pub joined_once : (es : List (V × V)) → ((v : V) → ends same v es ≤ 1) → {u v : V} →
      Joined (EdgeOf es) u v → (u ≡ v) ⊎ Near es u v
  joined_once es h here = inl refl
  joined_once es h {u} (on {v = v} {w = w} j e) = go (joined_once es h j)
    where
      go : (u ≡ v) ⊎ (IsIn (u, v) es ⊎ IsIn (v, u) es) → (u ≡ w) ⊎ Near es u w
      go (inl q) = inr (inl (subst (λ z. IsIn (z, w) es) (sym q) e))
      go (inr (inl k)) = inl (one_edge v u w es (h v) (inr k) (inl e))
      go (inr (inr k)) = inl (one_edge v u w es (h v) (inl k) (inl e))
  joined_once es h {u} (back {v = v} {w = w} j e) = go (joined_once es h j)
    where
      go : (u ≡ v) ⊎ (IsIn (u, v) es ⊎ IsIn (v, u) es) → (u ≡ w) ⊎ Near es u w
      go (inl q) = inr (inr (subst (λ z. IsIn (w, z) es) (sym q) e))
      go (inr (inl k)) = inl (one_edge v u w es (h v) (inr k) (inr e))
      go (inr (inr k)) = inl (one_edge v u w es (h v) (inl k) (inr e))

  -- An edge of what is left is what is joined by way of vertices that are taken out.
  pub left_edges : (ps : List V) (es : List (V × V)) → Ready same ps es → (u v : V) →
      Near (contract_all same ps es) u v ↔ (u ≢ v) × ¬ (IsIn u ps) × ¬ (IsIn v ps) × Joined (EdgeOf es) u v
  left_edges ps es r u v = (to, from)
    where
      d : Done ps es (contract_all same ps es)
      d = contracted ps es r.two

      at_most : (v : V) → IsIn v ps ⊎ ¬ (IsIn v ps) → ends same v (contract_all same ps es) ≤ 1
      at_most v (inl i) = let z = d.none v i in omega arith
      at_most v (inr n) = let z = d.ends_stay v n in let o = r.one v n in omega arith

      all_at_most : (v : V) → ends same v (contract_all same ps es) ≤ 1
      all_at_most v = at_most v (is_in v ps)

      apart : Near (contract_all same ps es) u v → u ≢ v
      apart (inl k) q = let l = ends_loop v (contract_all same ps es)
          (subst (λ z. IsIn (z, v) (contract_all same ps es)) q k) in let o = all_at_most v in omega arith
      apart (inr k) q = let l = ends_loop v (contract_all same ps es)
          (subst (λ z. IsIn (v, z) (contract_all same ps es)) q k) in let o = all_at_most v in omega arith

      stands : (v w : V) → IsIn (v, w) (contract_all same ps es) ⊎ IsIn (w, v) (contract_all same ps es) → ¬ (IsIn v ps)
      stands v w k i = let l = ends_in v w (contract_all same ps es) k in let o = d.none v i in omega arith

      other_way : Near (contract_all same ps es) u v →
          IsIn (v, u) (contract_all same ps es) ⊎ IsIn (u, v) (contract_all same ps es)
      other_way (inl k) = inr k
      other_way (inr k) = inl k

      walk : Near (contract_all same ps es) u v → Joined (EdgeOf (contract_all same ps es)) u v
      walk (inl k) = on here k
      walk (inr k) = back here k

      to : Near (contract_all same ps es) u v → (u ≢ v) × ¬ (IsIn u ps) × ¬ (IsIn v ps) × Joined (EdgeOf es) u v
      to k = (apart k, stands u v k, stands v u (other_way k), d.joined u v (walk k))

      once : (u ≡ v) ⊎ Near (contract_all same ps es) u v → u ≢ v → Near (contract_all same ps es) u v
      once (inl q) n = absurd (n q)
      once (inr k) n = k

      from : (u ≢ v) × ¬ (IsIn u ps) × ¬ (IsIn v ps) × Joined (EdgeOf es) u v → Near (contract_all same ps es) u v
      from h = once (joined_once (contract_all same ps es) all_at_most (d.joins u v h.1 h.2 h.3)) h.0

  pub any_order : (ps qs : List V) (es : List (V × V)) → ((p : V) → IsIn p ps ↔ IsIn p qs) →
      Ready same ps es → (u v : V) →
      Near (contract_all same ps es) u v ↔ Near (contract_all same qs es) u v
  any_order ps qs es k r u v =
      let r' : Ready same qs es = record {
        two = λ p i. r.two p ((k p).1 i);
        one = λ v n. r.one v (λ i. n ((k v).0 i));
      } in
      let a = left_edges ps es r u v in
      let b = left_edges qs es r' u v in (
        λ n. let h = a.0 n in b.1 (h.0, (λ i. h.1 ((k u).1 i)), (λ i. h.2 ((k v).1 i)), h.3),
        λ n. let h = b.0 n in a.1 (h.0, (λ i. h.1 ((k u).0 i)), (λ i. h.2 ((k v).0 i)), h.3),
      )
