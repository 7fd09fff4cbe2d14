-- Elements of lists, and counts of ends in lists of edges.
use Rattle.std.proofs.Common.{◌≡◌, ◌≢◌, ℕ, zero, suc, ◌+◌, ◌<◌, ◌≤◌, List, [], ◌∷◌, ◌++◌, map, subst, arith}
use Rattle.std.proofs.Common.{filter, Bool, true, false, cond, ◌⊎◌, inl, inr, refl, sym, ap, ◌∙◌}
use Rattle.ol_law_edges.specs.Edges.{IsIn, Near, ends, bit, IsTest}
use Rattle.ol_rules.specs.Listed.{each}

pub in_filter : {X : Type 0} (keep : X → Bool) (x : X) (xs : List X) → IsIn x xs → keep x ≡ true →
    IsIn x (filter keep xs)
in_filter keep x [] h k = absurd h
in_filter keep x (z ∷ xs) (inl e) k = subst
    (λ b. IsIn x (cond b (z ∷ filter keep xs) (filter keep xs))) (sym (subst (λ z. keep z ≡ true) e k)) (inl e)
in_filter keep x (z ∷ xs) (inr h) k = go (keep z) (in_filter keep x xs h k)
  where
    go : (b : Bool) → IsIn x (filter keep xs) → IsIn x (cond b (z ∷ filter keep xs) (filter keep xs))
    go true h = inr h
    go false h = h

pub in_filter_of : {X : Type 0} (keep : X → Bool) (x : X) (xs : List X) → IsIn x (filter keep xs) →
    IsIn x xs × (keep x ≡ true)
in_filter_of keep x [] h = absurd h
in_filter_of keep x (z ∷ xs) h = go (keep z) refl (in_filter_of keep x xs) h
  where
    go : (b : Bool) → keep z ≡ b → (IsIn x (filter keep xs) → IsIn x xs × (keep x ≡ true)) →
        IsIn x (cond b (z ∷ filter keep xs) (filter keep xs)) → IsIn x (z ∷ xs) × (keep x ≡ true)
    go true k ih (inl e) = (inl e, subst (λ z. keep z ≡ true) (sym e) k)
    go true k ih (inr h) = let t = ih h in (inr t.0, t.1)
    go false k ih h = let t = ih h in (inr t.0, t.1)

-- sums over 0 to n - 1
pub tally : (ℕ → ℕ) → ℕ → ℕ
tally c zero = 0
tally c (suc n) = tally c n + c n

pub tally_none : (c : ℕ → ℕ) (n : ℕ) → ((s : ℕ) → s < n → c s ≡ 0) → tally c n ≡ 0
unfolding tally
tally_none c zero h = refl
tally_none c (suc n) h = let a = tally_none c n (λ s b. h s (omega arith)) in let b = h n (omega arith) in omega arith

pub tally_one : (c : ℕ → ℕ) (n s : ℕ) → s < n → c s ≡ 1 → ((t : ℕ) → t ≢ s → c t ≡ 0) → tally c n ≡ 1
unfolding tally
tally_one c zero s b h k = absurd (omega arith)
tally_one c (suc n) s b h k = go (last s n b) (λ l. tally_one c n s l h k)
  where
    last : (s n : ℕ) → s < suc n → (s < n) ⊎ (s ≡ n)
    last s n b = grind arith

    go : (s < n) ⊎ (s ≡ n) → (s < n → tally c n ≡ 1) → tally c n + c n ≡ 1
    go (inl l) ih = let a = ih l in let z = k n (omega arith) in omega arith
    go (inr e) ih =
        let a = tally_none c n (λ t l. k t (omega arith)) in
        let z : c n ≡ 1 = subst (λ n. c n ≡ 1) e h in
        omega arith

module _ {V : Type 0} (same : V → V → Bool) where
  pub ends_append : (v : V) (xs ys : List (V × V)) → ends same v (xs ++ ys) ≡ ends same v xs + ends same v ys
  ends_append v [] ys = omega arith
  ends_append v (e ∷ xs) ys = let h = ends_append v xs ys in omega arith

  pub ends_each : (v : V) (n : ℕ) (rows : ℕ → List (V × V)) →
      ends same v (each n rows) ≡ tally (λ s. ends same v (rows s)) n
  unfolding tally
  ends_each v zero rows = refl
  ends_each v (suc n) rows = ends_append v (each n rows) (rows n)
      ∙ ap (λ m. m + ends same v (rows n)) (ends_each v n rows)

  pub ends_filter : (v : V) (keep : V × V → Bool) (es : List (V × V)) →
      ((e : V × V) → IsIn e es → keep e ≡ false → bit (same v e.0) + bit (same v e.1) ≡ 0) →
      ends same v (filter keep es) ≡ ends same v es
  ends_filter v keep [] h = refl
  ends_filter v keep (e ∷ es) h = go (keep e) refl (ends_filter v keep es (λ d i. h d (inr i)))
    where
      go : (b : Bool) → keep e ≡ b → ends same v (filter keep es) ≡ ends same v es →
          ends same v (cond b (e ∷ filter keep es) (filter keep es)) ≡ ends same v (e ∷ es)
      go true k ih = omega arith
      go false k ih = let z = h e (inl refl) k in omega arith

  pub ends_filter_le : (v : V) (keep : V × V → Bool) (es : List (V × V)) → ends same v (filter keep es) ≤ ends same v es
  ends_filter_le v keep [] = omega arith
  ends_filter_le v keep (e ∷ es) = go (keep e) (ends_filter_le v keep es)
    where
      go : (b : Bool) → ends same v (filter keep es) ≤ ends same v es →
          ends same v (cond b (e ∷ filter keep es) (filter keep es)) ≤ ends same v (e ∷ es)
      go true ih = omega arith
      go false ih = omega arith

  -- where there is an end, there is an edge
  pub ends_near : (t : IsTest same) (v : V) (es : List (V × V)) → 1 ≤ ends same v es → (w : V) × Near es v w
  ends_near t v [] h = absurd (omega arith)
  ends_near t v (e ∷ es) h = first (same v e.0) refl (ends_near t v es)
    where
      more : ((w : V) × Near es v w) → (w : V) × Near (e ∷ es) v w
      more (w, inl k) = (w, inl (inr k))
      more (w, inr k) = (w, inr (inr k))

      second : (b : Bool) → same v e.1 ≡ b → same v e.0 ≡ false →
          (1 ≤ ends same v es → (w : V) × Near es v w) → (w : V) × Near (e ∷ es) v w
      second true k z ih = (e.0, inr (inl (ap (λ x. (e.0, x)) (t.tells v e.1 k))))
      second false k z ih =
          let z0 : bit (same v e.0) ≡ 0 = ap bit z in
          let z1 : bit (same v e.1) ≡ 0 = ap bit k in
          more (ih (omega arith))

      first : (b : Bool) → same v e.0 ≡ b → (1 ≤ ends same v es → (w : V) × Near es v w) → (w : V) × Near (e ∷ es) v w
      first true k ih = (e.1, inl (inl (ap (λ x. (x, e.1)) (t.tells v e.0 k))))
      first false k ih = second (same v e.1) refl k ih

pub ends_map : {V W : Type 0} (same : V → V → Bool) (same' : W → W → Bool) (m : V → W) (v : V)
    (w : W) (es : List (V × V)) →
    ((e : V × V) → IsIn e es → (same' w (m e.0) ≡ same v e.0) × (same' w (m e.1) ≡ same v e.1)) →
    ends same' w (map (λ (e : V × V). (m e.0, m e.1)) es) ≡ ends same v es
ends_map same same' m v w [] h = refl
ends_map same same' m v w (e ∷ es) h =
    let r = ends_map same same' m v w es (λ d i. h d (inr i)) in
    let a = ap bit (h e (inl refl)).0 in
    let b = ap bit (h e (inl refl)).1 in
    omega arith
