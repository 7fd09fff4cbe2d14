-- Private: the numbers of the first binders' names.
use Rattle.std.specs.Prelude.{◌≡◌, ℕ, suc, ◌<◌, ◌⊎◌, slice_index_or, List, length}
use Rattle.ol_term.specs.BinderNames.{binder_number}

-- number t of the list is that of the name of a binder with t binders round it
abbrev pub AreNumbers : List (List ℕ) → List ℕ → Type 0
AreNumbers names ns = (t d : ℕ) → t < length ns → slice_index_or ns t d ≡ binder_number names t

-- one past the last number, or 0
abbrev pub IsStart : List ℕ → ℕ → Type 0
IsStart ns m = ((length ns ≡ 0) × (m ≡ 0)) ⊎ ((t : ℕ) × (length ns ≡ suc t) × (m ≡ suc (slice_index_or ns t 0)))
