-- The names of binders.
use Rattle.std.proofs.Common.{◌≡◌, ℕ, zero, suc, ◌+◌, ◌*◌, ◌/◌, ◌%◌, ◌==◌, ◌<◌, ◌≤◌, ◌^◌, inl, inr, List, [], ◌∷◌}
use Rattle.std.proofs.Common.{length, Bool, true, false, ◌||◌, cond, refl, sym, ap, ◌∙◌, arith}
use Rattle.std.specs.Fmt.{decimal}
use Rattle.std.specs.Str.Parse.{AllDigits, digits_value}
use Rattle.std.proofs.Math.Nat.{div-add-mod, mul-le-mul}
use Rattle.std.specs.Str.{bytes_eq}
use Rattle.std.proofs.lemmas.Bool.{cases_Bool, cases_lt, cases_order, eqb-true}
use Rattle.std.proofs.lemmas.Slice.Eq.{bytes_eq-Decides}
use Rattle.std.proofs.lemmas.Fmt.{decimal_is_IsNumeral_wide}
use Rattle.std.proofs.lemmas.Str.Parse.{digit_from_value}
use Rattle.ol_term.specs.BinderNames.{candidate, is_among, fresh_from, binder_number, binder_name}
use Rattle.ol_term.specs.NameLists.{without}
use Rattle.ol_term.specs.BinderLaws.{AreDigits, IsLetterWithDigits, BinderIsLetterWithDigits}
use Rattle.ol_term.specs.BinderLaws.{BinderIsNotFree, BindersDiffer}
use Rattle.ol_term.proofs.BinderTexts.{not_same, among_at}

-- ---- one name of the sequence

abbrev tail_of : ℕ → List ℕ
tail_of q = cond (q == 0) [] (decimal q)

are_digits : (ds : List ℕ) → AllDigits 10 ds → AreDigits ds
are_digits [] h = tt
are_digits (c ∷ ds) h = let r = digit_from_value c h.0 in (r.0, r.1, are_digits ds h.1)

tail_digits : (q : ℕ) → q < 10 ^ 64 → AreDigits (tail_of q)
tail_digits q h = go (q == 0)
  where
    go : (b : Bool) → AreDigits (cond b [] (decimal q))
    go true = tt
    go false = are_digits (decimal q) (decimal_is_IsNumeral_wide q h).0.1

tail_same : (p q : ℕ) → p < 10 ^ 64 → q < 10 ^ 64 → tail_of p ≡ tail_of q → p ≡ q
tail_same p q h k e = go (p == 0) refl (q == 0) refl e
  where
    value : (n : ℕ) → n < 10 ^ 64 → digits_value 10 (decimal n) ≡ n
    value n l = (decimal_is_IsNumeral_wide n l).1

    some : (n : ℕ) → n < 10 ^ 64 → [] ≡ decimal n → ⊥
    some n l z = let h : 0 < length (decimal n) = (decimal_is_IsNumeral_wide n l).0.0 in
        let k = ap length z in absurd (omega arith)

    go : (a : Bool) → (p == 0) ≡ a → (b : Bool) → (q == 0) ≡ b → cond a [] (decimal p) ≡ cond b [] (decimal q) → p ≡ q
    go true x true y z = eqb-true p 0 x ∙ sym (eqb-true q 0 y)
    go true x false y z = absurd (some q k z)
    go false x true y z = absurd (some p h (sym z))
    go false x false y z = sym (value p h) ∙ ap (digits_value 10) z ∙ value q k

same_candidate : (a b : ℕ) → a < 10 ^ 64 → b < 10 ^ 64 → candidate a ≡ candidate b → a ≡ b
same_candidate a b h k e =
    let heads : 97 + a % 26 ≡ 97 + b % 26 = cc in
    let tails : tail_of (a / 26) ≡ tail_of (b / 26) = cc in
    let x = div-add-mod a 26 in
    let y = div-add-mod b 26 in
    let q = tail_same (a / 26) (b / 26) (omega arith) (omega arith) tails in
    omega arith

letter_with_digits : (m : ℕ) → m < 10 ^ 64 → IsLetterWithDigits (candidate m)
letter_with_digits m h =
    let x = div-add-mod m 26 in
    (omega arith, omega arith, tail_digits (m / 26) (omega arith))

-- ---- all but one name

pub without_short : (x : List ℕ) (ns : List (List ℕ)) → length (without x ns) ≤ length ns
without_short x [] = omega arith
without_short x (n ∷ ns) = go (bytes_eq x n) (without_short x ns)
  where
    go : (b : Bool) → length (without x ns) ≤ length ns →
        length (cond b (without x ns) (n ∷ without x ns)) ≤ length (n ∷ ns)
    go true h = omega arith
    go false h = omega arith

without_less : (x : List ℕ) (ns : List (List ℕ)) → is_among ns x ≡ true → length (without x ns) < length ns
without_less x [] h = absurd (cc)
without_less x (n ∷ ns) h = elim (cases_Bool (bytes_eq x n)) [
  | inl same ↦ let short = without_short x ns in rw same (omega arith)
  | inr differ ↦
      let miss : bytes_eq n x ≡ false = not_same n x (λ e. let hit = (bytes_eq-Decides x n).1 (sym e) in absurd (cc)) in
      let less = without_less x ns (rw miss at h) in
      rw differ (omega arith)
]

without_other : (x y : List ℕ) (ns : List (List ℕ)) → (x ≡ y → ⊥) → is_among ns y ≡ is_among (without x ns) y
without_other x y [] h = refl
without_other x y (n ∷ ns) h = go (bytes_eq x n) refl (without_other x y ns h)
  where
    go : (b : Bool) → bytes_eq x n ≡ b → is_among ns y ≡ is_among (without x ns) y →
        (bytes_eq n y || is_among ns y) ≡ is_among (cond b (without x ns) (n ∷ without x ns)) y
    go true e each = ap (λ b. b || is_among ns y) (not_same n y (λ s. h ((bytes_eq-Decides x n).0 e ∙ s))) ∙ each
    go false e each = ap (λ b. bytes_eq n y || b) each

-- ---- the first fresh name

fresh_low : (names : List (List ℕ)) (n m : ℕ) → m ≤ fresh_from names n m
fresh_low names zero m = omega arith
fresh_low names (suc n) m = go (is_among names (candidate m)) (fresh_low names n (suc m))
  where
    go : (b : Bool) → suc m ≤ fresh_from names n (suc m) → m ≤ cond b (fresh_from names n (suc m)) m
    go true h = omega arith
    go false h = omega arith

fresh_high : (names : List (List ℕ)) (n m : ℕ) → fresh_from names n m ≤ m + n
fresh_high names zero m = omega arith
fresh_high names (suc n) m = go (is_among names (candidate m)) (fresh_high names n (suc m))
  where
    go : (b : Bool) → fresh_from names n (suc m) ≤ suc m + n → cond b (fresh_from names n (suc m)) m ≤ m + suc n
    go true h = omega arith
    go false h = omega arith

fresh_same : (ms ns : List (List ℕ)) (n m : ℕ) →
    ((k : ℕ) → m ≤ k → k < m + n → is_among ms (candidate k) ≡ is_among ns (candidate k)) →
    fresh_from ms n m ≡ fresh_from ns n m
fresh_same ms ns zero m h = refl
fresh_same ms ns (suc n) m h =
    ap (λ b. cond b (fresh_from ms n (suc m)) m) (h m (omega arith) (omega arith))
    ∙ ap (λ r. cond (is_among ns (candidate m)) r m)
    (fresh_same ms ns n (suc m) (λ k a b. h k (omega arith) (omega arith)))

-- of one name more than there are free names, one is fresh
fresh_is_new : (n : ℕ) (names : List (List ℕ)) (m : ℕ) → length names ≤ n → m + n < 10 ^ 64 →
    is_among names (candidate (fresh_from names n m)) ≡ false
fresh_is_new zero [] m h l = refl
fresh_is_new zero (x ∷ names) m h l = absurd (omega arith)
fresh_is_new (suc n) names m h l = go (is_among names (candidate m)) refl
    (λ b. fresh_is_new n (without (candidate m) names) (suc m) b (omega arith))
  where
    same : (k : ℕ) → suc m ≤ k → k < 10 ^ 64 →
        is_among names (candidate k) ≡ is_among (without (candidate m) names) (candidate k)
    same k a b = without_other (candidate m) (candidate k) names
        (λ e. let z = same_candidate m k (omega arith) b e in absurd (omega arith))

    go : (b : Bool) → is_among names (candidate m) ≡ b →
        (length (without (candidate m) names) ≤ n →
        is_among (without (candidate m) names) (candidate (fresh_from (without (candidate m) names) n (suc m))) ≡ false)
        → is_among names (candidate (cond b (fresh_from names n (suc m)) m)) ≡ false
    go true e each =
        let less = without_less (candidate m) names e in
        let low = fresh_low (without (candidate m) names) n (suc m) in
        let high = fresh_high (without (candidate m) names) n (suc m) in
        ap (λ r. is_among names (candidate r))
        (fresh_same names (without (candidate m) names) n (suc m) (λ k a b. same k a (omega arith)))
        ∙ same (fresh_from (without (candidate m) names) n (suc m)) low (omega arith)
        ∙ each (omega arith)
    go false e each = e

-- ---- the numbers of binders' names

number_high : (names : List (List ℕ)) (t : ℕ) → binder_number names t ≤ t + (t + 1) * length names
number_high names zero = let h = fresh_high names (length names) 0 in omega arith
number_high names (suc t) = let h = fresh_high names (length names) (suc (binder_number names t)) in
    let k = number_high names t in omega arith

number_written : (names : List (List ℕ)) (t : ℕ) → length names < 2 ^ 32 → t < 2 ^ 64 →
    binder_number names t + length names + 1 < 10 ^ 64
number_written names t h k =
    let l = number_high names t in
    let m : (t + 1) * length names ≤ 2 ^ 64 * 2 ^ 32 = mul-le-mul {n₁ = t + 1} {m₁ = length names}
    {n₂ = 2 ^ 64} {m₂ = 2 ^ 32} (omega arith) (omega arith) in
    omega arith

number_is_new : (names : List (List ℕ)) (t : ℕ) → length names < 2 ^ 32 → t < 2 ^ 64 →
    is_among names (candidate (binder_number names t)) ≡ false
number_is_new names zero h k = fresh_is_new (length names) names 0 (omega arith) (omega arith)
number_is_new names (suc t) h k = let l = number_written names t h (omega arith) in
    fresh_is_new (length names) names (suc (binder_number names t)) (omega arith) (omega arith)

rising : (names : List (List ℕ)) (s t : ℕ) → s < t → binder_number names s < binder_number names t
rising names s zero h = absurd (omega arith)
rising names s (suc t) h =
    let low = fresh_low names (length names) (suc (binder_number names t)) in
    elim (cases_lt s t) [
      | inl less ↦ (let r = rising names s t less in omega arith)
      | inr more ↦ (let e : s ≡ t = omega arith in let r = ap (binder_number names) e in omega arith)
    ]

-- ---- the laws

pub binder_is_letter_with_digits : BinderIsLetterWithDigits
binder_is_letter_with_digits names t h k = let l = number_written names t h k in
    letter_with_digits (binder_number names t) (omega arith)

pub binder_is_not_free : BinderIsNotFree
binder_is_not_free names t h k j e =
    let here = among_at names j (binder_name names t) e in
    let new = number_is_new names t h k in
    absurd (cc)

pub binders_differ : BindersDiffer
binders_differ names s t h k l apart e =
    let x = number_written names s h k in
    let y = number_written names t h l in
    let same = same_candidate (binder_number names s) (binder_number names t) (omega arith) (omega arith) e in
    elim (cases_order s t) [
      | inl is ↦ absurd (apart is)
      | inr other ↦ elim other [
        | inl less ↦ (let r = rising names s t less in absurd (omega arith))
        | inr more ↦ (let r = rising names t s more in absurd (omega arith))
      ]
    ]
