-- The least weight within which two vertices are joined by the edges of a list.
use Rattle.std.proofs.Common.{◌≡◌, ℕ, ◌≤◌, min, max, nat_lt, ltb-true, List, [], ◌∷◌, Option, Some, None, Bool, true}
use Rattle.std.proofs.Common.{false, cond, ◌⊎◌, inl, inr, refl, sym, ap, subst, arith}
use Rattle.std.proofs.lemmas.Bool.{ltb-false}
use Rattle.ol_law_edges.specs.Edges.{IsTest, Joined, here, on, back}
use Rattle.ol_law_edges.proofs.Joining.{joined_trans, joined_map}
use Rattle.ol_diamond.specs.Weights.{AtMost, WeightedEdgeOf}

-- nothing, or a weight of n at most
abbrev pub Under : Option ℕ → ℕ → Type 0
Under None n = ⊥
Under (Some w) n = w ≤ n

abbrev least : Option ℕ → Option ℕ → Option ℕ
least None y = y
least (Some a) None = Some a
least (Some a) (Some b) = Some (min a b)

abbrev heavier : Option ℕ → Option ℕ → Option ℕ
heavier None y = None
heavier (Some a) None = None
heavier (Some a) (Some b) = Some (max a b)

least_first : (x y : Option ℕ) (n : ℕ) → Under x n → Under (least x y) n
least_first None y n h = absurd h
least_first (Some a) None n h = h
least_first (Some a) (Some b) n h = omega arith

least_second : (x y : Option ℕ) (n : ℕ) → Under y n → Under (least x y) n
least_second None y n h = h
least_second (Some a) None n h = absurd h
least_second (Some a) (Some b) n h = omega arith

least_of : (x y : Option ℕ) (n : ℕ) → Under (least x y) n → Under x n ⊎ Under y n
least_of None y n h = inr h
least_of (Some a) None n h = inl h
least_of (Some a) (Some b) n h = go (nat_lt a b) refl
  where
    go : (c : Bool) → nat_lt a b ≡ c → (a ≤ n) ⊎ (b ≤ n)
    go true e = let l = ltb-true a b e in inl (omega arith)
    go false e = let l = ltb-false a b e in inr (omega arith)

heavier_both : (x y : Option ℕ) (n : ℕ) → Under x n → Under y n → Under (heavier x y) n
heavier_both None y n h h' = absurd h
heavier_both (Some a) None n h h' = absurd h'
heavier_both (Some a) (Some b) n h h' = omega arith

heavier_of : (x y : Option ℕ) (n : ℕ) → Under (heavier x y) n → Under x n × Under y n
heavier_of None y n h = absurd h
heavier_of (Some a) None n h = absurd h
heavier_of (Some a) (Some b) n h = (omega arith, omega arith)

abbrev Light : {V : Type 0} → List (V × V × ℕ) → ℕ → V → V → Type 0
Light es n = Joined (AtMost (WeightedEdgeOf es) n)

-- with one edge more, from x to y, of weight w
module _ {V : Type 0} (x y : V) (w : ℕ) (es : List (V × V × ℕ)) (n : ℕ) (u : V) where
  -- joined without it, or by way of it
  abbrev Way : V → Type 0
  Way v = Light es n u v ⊎ ((w ≤ n) × Light es n u x × Light es n y v) ⊎ ((w ≤ n) × Light es n u y × Light es n x v)

  forth : (v z : V) → AtMost (WeightedEdgeOf es) n v z → Way v → Way z
  forth v z e (inl j) = inl (on j e)
  forth v z e (inr (inl t)) = inr (inl (t.0, t.1, on t.2 e))
  forth v z e (inr (inr t)) = inr (inr (t.0, t.1, on t.2 e))

  back' : (v z : V) → AtMost (WeightedEdgeOf es) n z v → Way v → Way z
  back' v z e (inl j) = inl (back j e)
  back' v z e (inr (inl t)) = inr (inl (t.0, t.1, back t.2 e))
  back' v z e (inr (inr t)) = inr (inr (t.0, t.1, back t.2 e))

  across : w ≤ n → Way x → Way y
  across b (inl j) = inr (inl (b, j, here))
  across b (inr (inl t)) = inr (inl (b, t.1, here))
  across b (inr (inr t)) = inl t.1

  across' : w ≤ n → Way y → Way x
  across' b (inl j) = inr (inr (b, j, here))
  across' b (inr (inl t)) = inl t.1
  across' b (inr (inr t)) = inr (inr (b, t.1, here))

  way : {v : V} → Light ((x, y, w) ∷ es) n u v → Way v
  way here = inl here
  way (on {v = v} {w = z} j (k, inl e, b)) =
      let ex : v ≡ x = ap (λ (t : V × V × ℕ). t.0) e in
      let ez : z ≡ y = ap (λ (t : V × V × ℕ). t.1) e in
      let ew : k ≡ w = ap (λ (t : V × V × ℕ). t.2) e in
      subst Way (sym ez) (across (omega arith) (subst Way ex (way j)))
  way (on {v = v} {w = z} j (k, inr h, b)) = forth v z (k, h, b) (way j)
  way (back {v = v} {w = z} j (k, inl e, b)) =
      let ez : z ≡ x = ap (λ (t : V × V × ℕ). t.0) e in
      let ev : v ≡ y = ap (λ (t : V × V × ℕ). t.1) e in
      let ew : k ≡ w = ap (λ (t : V × V × ℕ). t.2) e in
      subst Way (sym ez) (across' (omega arith) (subst Way ev (way j)))
  way (back {v = v} {w = z} j (k, inr h, b)) = back' v z (k, h, b) (way j)

  more : {a b : V} → Light es n a b → Light ((x, y, w) ∷ es) n a b
  more j = joined_map (λ a b e. on here (e.0, inr e.1, e.2)) j

  way_back : (v : V) → Way v → Light ((x, y, w) ∷ es) n u v
  way_back v (inl j) = more j
  way_back v (inr (inl t)) = joined_trans (on (more t.1) (w, inl refl, t.0)) (more t.2)
  way_back v (inr (inr t)) = joined_trans (back (more t.1) (w, inl refl, t.0)) (more t.2)

module _ {V : Type 0} (same : V → V → Bool) (test : IsTest same) where
  -- the least greatest weight on a way from u to v
  pub bottle : List (V × V × ℕ) → V → V → Option ℕ
  bottle [] u v = cond (same u v) (Some 0) None
  bottle (e ∷ es) u v = least (bottle es u v) (least
      (heavier (Some e.2) (heavier (bottle es u e.0) (bottle es e.1 v)))
      (heavier (Some e.2) (heavier (bottle es u e.1) (bottle es e.0 v))))

  none : {u v : V} {n : ℕ} → Light [] n u v → u ≡ v
  none here = refl
  none (on j e) = absurd e.1
  none (back j e) = absurd e.1

  -- from what holds of the edges but the first
  way_of : (e : V × V × ℕ) (es : List (V × V × ℕ)) (n : ℕ) (u v : V) →
      ((a b : V) → Under (bottle es a b) n → Light es n a b) → Under (bottle (e ∷ es) u v) n → Way e.0 e.1 e.2 es n u v
  unfolding bottle
  way_of e es n u v joins h = go (least_of (bottle es u v) (least first second) n h)
    where
      first : Option ℕ
      first = heavier (Some e.2) (heavier (bottle es u e.0) (bottle es e.1 v))

      second : Option ℕ
      second = heavier (Some e.2) (heavier (bottle es u e.1) (bottle es e.0 v))

      both : (a b c d : V) → Under (heavier (Some e.2)
          (heavier (bottle es a b) (bottle es c d))) n → (e.2 ≤ n) × Light es n a b × Light es n c d
      both a b c d h =
          let s = heavier_of (Some e.2) (heavier (bottle es a b) (bottle es c d)) n h in
          let t = heavier_of (bottle es a b) (bottle es c d) n s.1 in
          (s.0, joins a b t.0, joins c d t.1)

      go : Under (bottle es u v) n ⊎ Under (least first second) n → Way e.0 e.1 e.2 es n u v
      go (inl h) = inl (joins u v h)
      go (inr h) = elim (least_of first second n h) [
        | inl h ↦ inr (inl (both u e.0 e.1 v h))
        | inr h ↦ inr (inr (both u e.1 e.0 v h))
      ]

  of_way : (e : V × V × ℕ) (es : List (V × V × ℕ)) (n : ℕ) (u v : V) →
      ((a b : V) → Light es n a b → Under (bottle es a b) n) → Way e.0 e.1 e.2 es n u v → Under (bottle (e ∷ es) u v) n
  unfolding bottle
  of_way e es n u v under w = go w
    where
      first : Option ℕ
      first = heavier (Some e.2) (heavier (bottle es u e.0) (bottle es e.1 v))

      second : Option ℕ
      second = heavier (Some e.2) (heavier (bottle es u e.1) (bottle es e.0 v))

      both : (a b c d : V) → (e.2 ≤ n) × Light es n a b × Light es n c d →
          Under (heavier (Some e.2) (heavier (bottle es a b) (bottle es c d))) n
      both a b c d t = heavier_both (Some e.2) (heavier (bottle es a b) (bottle es c d)) n t.0
          (heavier_both (bottle es a b) (bottle es c d) n (under a b t.1) (under c d t.2))

      go : Way e.0 e.1 e.2 es n u v → Under (least (bottle es u v) (least first second)) n
      go (inl j) = least_first (bottle es u v) (least first second) n (under u v j)
      go (inr (inl t)) = least_second (bottle es u v) (least first second) n
          (least_first first second n (both u e.0 e.1 v t))
      go (inr (inr t)) = least_second (bottle es u v) (least first second) n
          (least_second first second n (both u e.1 e.0 v t))

  -- they are joined by edges of weight n at most exactly where that is n at most
  pub joined_of : (es : List (V × V × ℕ)) (n : ℕ) (u v : V) → Under (bottle es u v) n → Light es n u v
  unfolding bottle
  joined_of [] n u v h = go (same u v) refl h
    where
      go : (b : Bool) → same u v ≡ b → Under (cond b (Some 0) None) n → Light [] n u v
      go true e h = subst (λ z. Light [] n u z) (test.tells u v e) here
      go false e h = absurd h
  joined_of (e ∷ es) n u v h = way_back e.0 e.1 e.2 es n u v (way_of e es n u v (λ a b h. joined_of es n a b h) h)

  pub under_of : (es : List (V × V × ℕ)) (n : ℕ) (u v : V) → Light es n u v → Under (bottle es u v) n
  unfolding bottle
  under_of [] n u v j = let e : same u v ≡ true = subst (λ z. same u z ≡ true) (none j)
      (test.holds u) in subst (λ b. Under (cond b (Some 0) None) n) (sym e) (omega arith)
  under_of (e ∷ es) n u v j = of_way e es n u v (λ a b j. under_of es n a b j) (way e.0 e.1 e.2 es n u j)
