-- Lists of names.
use Rattle.std.specs.Prelude.{◌≡◌, ◌≢◌, ℕ, ◌<◌, List, [], ◌∷◌, ◌++◌, Option, Some, None, cond, slice_get, slice_index_or}
use Rattle.std.specs.List.{position_from}
use Rattle.std.specs.Str.{bytes_eq}
use Rattle.ol_term.specs.Trees as tree
use Rattle.ol_term.specs.Trees.{Tree}

-- the name stands at this place, and at none before it
pub record IsFirstPlace (names : List (List ℕ)) (name : List ℕ) (k : ℕ) : Type 0 where
  pub here : slice_get names k ≡ Some name
  pub before : (j : ℕ) → j < k → slice_get names j ≢ Some name

-- no name stands twice
abbrev pub NoNameTwice : List (List ℕ) → Type 0
NoNameTwice names = (j k : ℕ) (name : List ℕ) → slice_get names j ≡ Some name → slice_get names k ≡ Some name → j ≡ k

-- all but this name
abbrev pub without : List ℕ → List (List ℕ) → List (List ℕ)
without x [] = []
without x (y ∷ ys) = cond (bytes_eq x y) (without x ys) (y ∷ without x ys)

-- the first place of a name
abbrev pub position_of : List ℕ → List (List ℕ) → Option ℕ
position_of x names = position_from (λ y. bytes_eq x y) 0 names

-- a list with a name at its end, unless the name has a place there
abbrev pub put_unless : Option ℕ → List (List ℕ) → List ℕ → List (List ℕ)
put_unless (Some k) table name = table
put_unless None table name = table ++ name ∷ []

-- a list with these names as well, each once
abbrev pub with_names : List (List ℕ) → List (List ℕ) → List (List ℕ)
with_names table [] = table
with_names table (name ∷ names) = with_names (put_unless (position_of name table) table name) names

-- the number of a free name; no name of the term is missing from the list
abbrev pub free_at : Option ℕ → Tree
free_at (Some k) = tree.free k
free_at None = tree.free 0

-- a tree with these free names, each numbered by its place in a table
abbrev pub in_table : (table names : List (List ℕ)) → Tree → Tree
in_table table names (tree.var k) = tree.var k
in_table table names (tree.free k) = free_at (position_of (slice_index_or names k []) table)
in_table table names (tree.lam t) = tree.lam (in_table table names t)
in_table table names (tree.app f a) = tree.app (in_table table names f) (in_table table names a)
