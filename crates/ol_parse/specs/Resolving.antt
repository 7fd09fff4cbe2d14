-- Private: numbering from the left, under binders and behind names that are numbered already.
use Rattle.std.specs.Prelude.{◌≡◌, ℕ, List, [], ◌∷◌, ◌++◌, map, Option, Some, None}
use Rattle.std.specs.Borrow.{Bor}
use Rattle.ol_term.specs.Trees.{Tree}
use Rattle.ol_parse.specs.Grammar.{Named, var, lam, app}
use Rattle.ol_term.specs.NameLists.{position_of}
use Rattle.ol_parse.specs.Numbered.{numbered}

-- a name behind the others, unless it has a place among the binders or among them
abbrev pub add_unless : List (List ℕ) → List ℕ → Option ℕ → Option ℕ → List (List ℕ)
add_unless names x (Some k) free = names
add_unless names x None (Some k) = names
add_unless names x None None = names ++ (x ∷ [])

-- the names before, and behind them those that are new in a term under these binders
abbrev pub names_from : List (List ℕ) → List (List ℕ) → Named → List (List ℕ)
names_from binders names (var x) = add_unless names x (position_of x binders) (position_of x names)
names_from binders names (lam x t) = names_from (x ∷ binders) names t
names_from binders names (app f t) = names_from binders (names_from binders names f) t

abbrev pub texts : List (Bor (List ℕ)) → List (List ℕ)
texts names = map (λ x. x.now) names

-- the tree, for every list that the names may still grow to
abbrev pub IsNumbered : List (List ℕ) → List (List ℕ) → Named → Tree → Type 0
IsNumbered names binders t u = (more : List (List ℕ)) → numbered (names ++ more) binders t ≡ u
