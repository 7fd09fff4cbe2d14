-- From a term with names to a tree: each name by its innermost binding, and free names in order of first occurrence,
-- the function before the argument.
use Rattle.std.specs.Prelude.{ℕ, List, [], ◌∷◌, ◌++◌, Option, Some, None}
use Rattle.ol_term.specs.Trees as tree
use Rattle.ol_term.specs.Trees.{Tree}
use Rattle.ol_term.specs.NameLists.{without, position_of, free_at}
use Rattle.ol_parse.specs.Grammar.{Named, var, lam, app}

-- a name, unless it is bound
abbrev pub unbound : List ℕ → Option ℕ → List (List ℕ)
unbound x (Some k) = []
unbound x None = x ∷ []

-- the names that occur free in a term under these binders, the innermost binder first; the function stands before the
-- argument
abbrev pub free_in : List (List ℕ) → Named → List (List ℕ)
free_in binders (var x) = unbound x (position_of x binders)
free_in binders (lam x t) = free_in (x ∷ binders) t
free_in binders (app f t) = free_in binders f ++ free_in binders t

-- each name once, where it stands first
abbrev pub once : List (List ℕ) → List (List ℕ)
once [] = []
once (x ∷ xs) = x ∷ without x (once xs)

-- the free names of a term, in order of first occurrence
abbrev pub names_of : Named → List (List ℕ)
names_of t = once (free_in [] t)

-- an occurrence of a name, from its place among the binders and among the free names
abbrev pub var_at : Option ℕ → Option ℕ → Tree
var_at (Some k) free = tree.var k
var_at None free = free_at free

-- the tree of a term under these binders, with the free names at their places in a list
abbrev pub numbered : List (List ℕ) → List (List ℕ) → Named → Tree
numbered names binders (var x) = var_at (position_of x binders) (position_of x names)
numbered names binders (lam x t) = tree.lam (numbered names (x ∷ binders) t)
numbered names binders (app f t) = tree.app (numbered names binders f) (numbered names binders t)

-- the tree of a whole term
abbrev pub number : Named → Tree
number t = numbered (names_of t) [] t
