-- Private: an index of names, and what is found in it.
use Rattle.std.specs.Prelude.{◌≡◌, ◌≢◌, ℕ, ◌<◌, ◌^◌, length, List, Option, Some, None, slice_get}
use Rattle.std.specs.Map.{lookup}
use Rattle.std.specs.Ordering.{nat_cmp, is_eq}
use Rattle.std.specs.Cmp.Lexicographic.{slice_cmp}
use Rattle.std.specs.declared.vec.Vec.{Vec}
use Rattle.std.specs.declared.alloc.Global.{Global}
use Rattle.ol_term.specs.NameLists.{IsFirstPlace, NoNameTwice}

-- what the index has at a name
abbrev pub found : List ℕ → List (Vec ℕ Global × ℕ) → Option ℕ
found name entries = lookup (λ key. is_eq (slice_cmp nat_cmp name key.items)) entries

-- the index has each name of the list, at its first place, and no name stands twice
pub record IsIndexed (names : List (List ℕ)) (entries : List (Vec ℕ Global × ℕ)) : Type 0 where
  pub short : length names < 2 ^ 32
  pub first : (name : List ℕ) (k : ℕ) → found name entries ≡ Some k → IsFirstPlace names name k
  pub all : (name : List ℕ) → found name entries ≡ None → (j : ℕ) → slice_get names j ≢ Some name
  pub different : NoNameTwice names
