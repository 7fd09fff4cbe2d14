-- Names of binders: a to z, then a1 to z1, a2 to z2 and so on, without the free names.
use Rattle.std.specs.Prelude.{ℕ, zero, suc, ◌+◌, ◌/◌, ◌%◌, ◌==◌, Bool, false, ◌||◌, if◌then◌else◌}
use Rattle.std.specs.Prelude.{List, [], ◌∷◌, length}
use Rattle.std.specs.Fmt.{decimal}
use Rattle.std.specs.Str.{bytes_eq}

-- name number m of the whole sequence
abbrev pub candidate : ℕ → List ℕ
candidate m = (97 + m % 26) ∷ (if m / 26 == 0 then [] else decimal (m / 26))

-- whether it is one of these names
abbrev pub is_among : List (List ℕ) → List ℕ → Bool
is_among [] t = false
is_among (n ∷ ns) t = bytes_eq n t || is_among ns t

-- the first number from m on whose name is no free name, where no more than n are passed over
abbrev pub fresh_from : List (List ℕ) → ℕ → ℕ → ℕ
fresh_from names zero m = m
fresh_from names (suc n) m = if is_among names (candidate m) then fresh_from names n (suc m) else m

-- The number of the name of a binder with t binders round it. No more names are passed over than there are free names.
abbrev pub binder_number : List (List ℕ) → ℕ → ℕ
binder_number names zero = fresh_from names (length names) 0
binder_number names (suc t) = fresh_from names (length names) (suc (binder_number names t))

abbrev pub binder_name : List (List ℕ) → ℕ → List ℕ
binder_name names t = candidate (binder_number names t)
