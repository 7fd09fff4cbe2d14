-- What holds of the names of binders. They are few enough to be written: fewer than 2 ^ 64 binders, and fewer than
-- 2 ^ 32 free names.
use Rattle.std.specs.Prelude.{◌≢◌, ℕ, ◌<◌, ◌≤◌, ◌^◌, List, [], ◌∷◌, length, Some, slice_get}
use Rattle.ol_term.specs.BinderNames.{binder_name}

-- digits 0 to 9
abbrev pub AreDigits : List ℕ → Type 0
AreDigits [] = Unit {0}
AreDigits (c ∷ w) = (48 ≤ c) × (c ≤ 57) × AreDigits w

-- a letter a to z, and then digits
abbrev pub IsLetterWithDigits : List ℕ → Type 0
IsLetterWithDigits [] = ⊥
IsLetterWithDigits (b ∷ w) = (97 ≤ b) × (b ≤ 122) × AreDigits w

-- the name of a binder is a letter with digits
abbrev pub BinderIsLetterWithDigits : Type 0
BinderIsLetterWithDigits = (names : List (List ℕ)) (t : ℕ) → length names < 2 ^ 32 → t < 2 ^ 64 →
    IsLetterWithDigits (binder_name names t)

-- no binder gets a free name
abbrev pub BinderIsNotFree : Type 0
BinderIsNotFree = (names : List (List ℕ)) (t : ℕ) → length names < 2 ^ 32 → t < 2 ^ 64 →
    (k : ℕ) → slice_get names k ≢ Some (binder_name names t)

-- two binders on one branch, which have different numbers of binders round them, get different names
abbrev pub BindersDiffer : Type 0
BindersDiffer = (names : List (List ℕ)) (s t : ℕ) → length names < 2 ^ 32 → s < 2 ^ 64 → t < 2 ^ 64 →
    s ≢ t → binder_name names s ≢ binder_name names t
