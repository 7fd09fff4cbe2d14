-- No free name of a term is listed twice.
use Rattle.std.proofs.Common.{◌≡◌, ◌∙◌, sym, refl, ap, ℕ, zero, suc, Bool, true, false, cond, ◌||◌, List, [], ◌∷◌}
use Rattle.std.proofs.Common.{slice_get, Some, inl, inr, arith}
use Rattle.std.specs.Str.{bytes_eq}
use Rattle.std.proofs.lemmas.Bool.{cases_Bool}
use Rattle.std.proofs.lemmas.Option.{same_Some}
use Rattle.std.proofs.lemmas.Slice.Eq.{bytes_eq-Decides}
use Rattle.ol_term.specs.BinderNames.{is_among}
use Rattle.ol_term.specs.NameLists.{without, NoNameTwice}
use Rattle.ol_parse.specs.Numbered.{once}

clash : {P : Type 0} → false ≡ true → P
clash e = absurd (cc)

itself : (x : List ℕ) → bytes_eq x x ≡ true
itself x = (bytes_eq-Decides x x).1 refl

-- a name is in the list without another exactly if it is in the list and isn't the other
among_without : (x z : List ℕ) (ys : List (List ℕ)) →
    is_among (without x ys) z ≡ cond (bytes_eq x z) false (is_among ys z)
among_without x z [] = none (bytes_eq x z)
  where
    none : (d : Bool) → false ≡ cond d false false
    none true = refl
    none false = refl
among_without x z (y ∷ ys) =
    go (bytes_eq x y) (bytes_eq y z) refl
    (λ e. ap (λ (w : List ℕ). bytes_eq w z) (sym ((bytes_eq-Decides x y).0 e)))
    (λ e f. apart (bytes_eq x z) refl e ((bytes_eq-Decides y z).0 f))
    (among_without x z ys)
  where
    apart : (d : Bool) → bytes_eq x z ≡ d → bytes_eq x y ≡ false → y ≡ z → d ≡ false
    apart false h e f = refl
    apart true h e f = sym (sym e ∙ ap (bytes_eq x) f ∙ h)

    dropped : (d : Bool) → cond d false (is_among ys z) ≡ cond d false (d || is_among ys z)
    dropped true = refl
    dropped false = refl

    first : (d : Bool) → d ≡ false → true ≡ cond d false true
    first true e = e
    first false e = refl

    go : (b c : Bool) → bytes_eq y z ≡ c → (b ≡ true → bytes_eq y z ≡ bytes_eq x z) →
        (b ≡ false → bytes_eq y z ≡ true → bytes_eq x z ≡ false) →
        is_among (without x ys) z ≡ cond (bytes_eq x z) false (is_among ys z) →
        is_among (cond {A = List (List ℕ)} b (without x ys) (y ∷ without x ys)) z
        ≡ cond (bytes_eq x z) false (bytes_eq y z || is_among ys z)
    go true c e alike other h =
        h ∙ dropped (bytes_eq x z) ∙ ap (λ (d : Bool). cond (bytes_eq x z) false (d || is_among ys z)) (sym (alike refl))
    go false true e alike other h =
        ap (λ (d : Bool). d || is_among (without x ys) z) e ∙ first (bytes_eq x z) (other refl e)
        ∙ ap (λ (d : Bool). cond (bytes_eq x z) false (d || is_among ys z)) (sym e)
    go false false e alike other h =
        ap (λ (d : Bool). d || is_among (without x ys) z) e ∙ h
        ∙ ap (λ (d : Bool). cond (bytes_eq x z) false (d || is_among ys z)) (sym e)

-- and it is in a list exactly if it is at some place
place_of : (ys : List (List ℕ)) (z : List ℕ) → is_among ys z ≡ true → (j : ℕ) × (slice_get ys j ≡ Some z)
place_of [] z e = clash e
place_of (y ∷ ys) z e = go (place_of ys z) (bytes_eq y z) refl e
  where
    go : (is_among ys z ≡ true → (j : ℕ) × (slice_get ys j ≡ Some z)) → (b : Bool) → bytes_eq y z ≡ b →
        (b || is_among ys z) ≡ true → (j : ℕ) × (slice_get (y ∷ ys) j ≡ Some z)
    go more true f h = (zero, ap (λ (w : List ℕ). Some w) ((bytes_eq-Decides y z).0 f))
    go more false f h = let there = more h in (suc there.0, there.1)

not_there : (ys : List (List ℕ)) (j : ℕ) (z : List ℕ) → is_among ys z ≡ false → slice_get ys j ≡ Some z → ⊥
not_there [] j z h e = absurd (cc)
not_there (y ∷ ys) j z h e = go (λ k. not_there ys k z) (bytes_eq y z) refl h j e
  where
    go : ((k : ℕ) → is_among ys z ≡ false → slice_get ys k ≡ Some z → ⊥) → (b : Bool) → bytes_eq y z ≡ b →
        (b || is_among ys z) ≡ false → (j : ℕ) → slice_get (y ∷ ys) j ≡ Some z → ⊥
    go more true f k j e = clash (sym k)
    go more false f k zero e =
        clash (sym f ∙ ap (λ (w : List ℕ). bytes_eq w z) (same_Some y z e) ∙ itself z)
    go more false f k (suc j) e = more j k e

module _ (y : List ℕ) (ys : List (List ℕ)) where
  with_first : is_among ys y ≡ false → NoNameTwice ys → NoNameTwice (y ∷ ys)
  with_first out once zero zero x e f = refl
  with_first out once zero (suc k) x e f =
      absurd (not_there ys k y out (f ∙ ap (λ (z : List ℕ). Some z) (sym (same_Some y x e))))
  with_first out once (suc j) zero x e f =
      absurd (not_there ys j y out (e ∙ ap (λ (z : List ℕ). Some z) (sym (same_Some y x f))))
  with_first out once (suc j) (suc k) x e f = ap suc (once j k x e f)

  rest_once : NoNameTwice (y ∷ ys) → NoNameTwice ys
  rest_once once j k x e f = let same : suc j ≡ suc k = once (suc j) (suc k) x e f in omega (arith, same)

  first_once : NoNameTwice (y ∷ ys) → is_among ys y ≡ false
  first_once once = elim (cases_Bool (is_among ys y)) [
    | inl is ↦ (
        let there = place_of ys y is in
        let same : zero ≡ suc there.0 = once zero (suc there.0) y refl there.1 in absurd (omega (arith, same)))
    | inr other ↦ other
  ]

without_once : (x : List ℕ) (ys : List (List ℕ)) → NoNameTwice ys → NoNameTwice (without x ys)
without_once x [] h = h
without_once x (y ∷ ys) h = go (bytes_eq x y) (without_once x ys (rest_once y ys h))
  where
    out : (d : Bool) → cond d false (is_among ys y) ≡ false
    out true = refl
    out false = first_once y ys h

    go : (b : Bool) → NoNameTwice (without x ys) →
        NoNameTwice (cond {A = List (List ℕ)} b (without x ys) (y ∷ without x ys))
    go true rest = rest
    go false rest = with_first y (without x ys) (among_without x y ys ∙ out (bytes_eq x y)) rest

pub once_once : (xs : List (List ℕ)) → NoNameTwice (once xs)
once_once [] = λ j k x e f. absurd (cc)
once_once (x ∷ xs) = with_first x (without x (once xs))
    (among_without x x (once xs) ∙ ap (λ (d : Bool). cond d false (is_among (once xs) x)) (itself x))
    (without_once x (once xs) (once_once xs))
