-- Names of binders.
use Rattle.std.proofs.Common.{◌≡◌, ℕ, zero, suc, ◌<◌, ◌≤◌, ◌⊎◌, inl, inr, true, false, ◌||◌, cond, List, [], ◌∷◌, ◌++◌}
use Rattle.std.proofs.Common.{length, get_or, Some, None, refl, sym, ap, ◌∙◌, arith}
use Rattle.std.specs.Prelude.{◌≢◌, slice_get}
use Rattle.std.specs.Str.{bytes_eq}
use Rattle.std.proofs.lemmas.Bool.{cases_Bool, or_right}
use Rattle.std.proofs.lemmas.Slice.Eq.{bytes_eq-Decides}
use Rattle.std.proofs.lemmas.List.{get_or_append_left, get_or_push, length_push}
use Rattle.ol_term.specs.BinderNames.{candidate, is_among, fresh_from, binder_number}
use Rattle.ol_term.specs.BinderNumbers.{AreNumbers, IsStart}

-- two texts that differ
pub not_same : (x y : List ℕ) → (x ≡ y → ⊥) → bytes_eq x y ≡ false
not_same x y apart = elim (cases_Bool (bytes_eq x y)) [
  | inl same ↦ absurd (apart ((bytes_eq-Decides x y).0 same))
  | inr differ ↦ differ
]

pub among_at : (names : List (List ℕ)) (k : ℕ) (t : List ℕ) → slice_get names k ≡ Some t → is_among names t ≡ true
among_at [] k t e = let z : None ≡ Some t = e in absurd (cc)
among_at (m ∷ names) zero t e =
    let z : Some m ≡ Some t = e in
    let y : m ≡ t = cc in
    ap (λ b. b || is_among names t) ((bytes_eq-Decides m t).1 y)
among_at (m ∷ names) (suc k) t e = or_right (bytes_eq m t) (is_among names t) (among_at names k t e)

pub among_nowhere : (names : List (List ℕ)) (t : List ℕ) → ((j : ℕ) → slice_get names j ≢ Some t) →
    is_among names t ≡ false
among_nowhere [] t h = refl
among_nowhere (m ∷ names) t h =
    ap (λ b. b || is_among names t) (not_same m t (λ e. h 0 (ap Some e)))
    ∙ among_nowhere names t (λ j. h (suc j))

-- passing over a name
pub fresh_taken : (names : List (List ℕ)) (n k m : ℕ) → n ≡ suc k →
    is_among names (candidate m) ≡ true → fresh_from names n m ≡ fresh_from names k (suc m)
fresh_taken names n k m e h = ap (λ n. fresh_from names n m) e ∙ ap (λ b. cond b (fresh_from names k (suc m)) m) h

pub fresh_found : (names : List (List ℕ)) (n k m : ℕ) → n ≡ suc k →
    is_among names (candidate m) ≡ false → fresh_from names n m ≡ m
fresh_found names n k m e h = ap (λ n. fresh_from names n m) e ∙ ap (λ b. cond b (fresh_from names k (suc m)) m) h

pub fresh_last : (names : List (List ℕ)) (n m : ℕ) → n ≡ 0 → fresh_from names n m ≡ m
fresh_last names n m e = ap (λ n. fresh_from names n m) e

-- one number more
start_is : (names : List (List ℕ)) (ns : List ℕ) (m : ℕ) → AreNumbers names ns → IsStart ns m →
    binder_number names (length ns) ≡ fresh_from names (length names) m
start_is names ns m h (inl s) = ap (binder_number names) s.0 ∙ ap (fresh_from names (length names)) (sym s.1)
start_is names ns m h (inr s) =
    let l = s.1 in
    ap (binder_number names) s.1 ∙ ap (λ n. fresh_from names (length names) (suc n))
    (sym (h s.0 0 (omega arith))) ∙ ap (fresh_from names (length names)) (sym s.2)

pub numbers_push : (names : List (List ℕ)) (ns : List ℕ) (m n : ℕ) → AreNumbers names ns →
    IsStart ns m → n ≡ fresh_from names (length names) m → AreNumbers names (ns ++ n ∷ [])
numbers_push names ns m n h s e t d b = go (cases t (length ns))
  where
    cases : (t k : ℕ) → (t < k) ⊎ (k ≤ t)
    cases t k = grind arith

    go : (t < length ns) ⊎ (length ns ≤ t) → get_or (ns ++ n ∷ []) t d ≡ binder_number names t
    go (inl c) = get_or_append_left ns (n ∷ []) d t c ∙ h t d c
    go (inr c) =
        let l = length_push ns n in
        let q : length ns ≡ t = omega arith in
        get_or_push ns n d t q ∙ e ∙ sym (start_is names ns m h s) ∙ ap (binder_number names) q
