-- A tree with names of its binders' own, each with as few primes as it needs.
use Rattle.std.specs.Prelude.{ℕ, zero, suc, ◌+◌, ◌-◌, nat_lt, if◌then◌else◌}
use Rattle.std.specs.Prelude.{slice_index_or, List, [], ◌∷◌, ◌++◌, length}
use Rattle.ol_term.specs.Trees as tree
use Rattle.ol_term.specs.Trees.{Tree}
use Rattle.ol_term.specs.BinderNames.{is_among}
use Rattle.ol_parse.specs.Grammar.{Named, var, lam, app}
use Rattle.ol_steps.specs.Binders as binders
use Rattle.ol_steps.specs.Binders.{Binders}

-- The names that occur in a tree and aren't bound by the innermost d binders round it: those of binders further out, of
-- which the list has the innermost first, and free names.
abbrev pub used : ℕ → List (List ℕ) → List (List ℕ) → Tree → List (List ℕ)
used d names round (tree.var k) = if nat_lt k d then [] else slice_index_or round (k - d) [] ∷ []
used d names round (tree.free k) = slice_index_or names k [] ∷ []
used d names round (tree.lam t) = used (d + 1) names round t
used d names round (tree.app f a) = used d names round f ++ used d names round a

-- how many bytes some names have
abbrev pub bytes_in : List (List ℕ) → ℕ
bytes_in [] = 0
bytes_in (x ∷ xs) = length x + bytes_in xs

-- a name with a prime more for each try that fails, where no more than n are made
abbrev pub primed_from : List (List ℕ) → ℕ → List ℕ → List ℕ
primed_from taken zero x = x
primed_from taken (suc n) x = if is_among taken x then primed_from taken n (x ++ 39 ∷ []) else x

-- The name with the least number of primes behind it that is none of these. A name that is longer than all of them
-- together is none of them, so more tries aren't needed.
abbrev pub primed : List (List ℕ) → List ℕ → List ℕ
primed taken x = primed_from taken (bytes_in taken + 1 - length x) x

-- A tree with names: each binder has its own, with as few primes as keep it from every free name and from every binder
-- round it that is used in its body. Where the shapes differ, nothing is said.
abbrev pub named : List (List ℕ) → List (List ℕ) → Tree → Binders → Named
named names round (tree.var k) s = var (slice_index_or round k [])
named names round (tree.free k) s = var (slice_index_or names k [])
named names round (tree.lam t) (binders.lam x s) =
    let y = primed (used 1 names round t) x in lam y (named names (y ∷ round) t s)
named names round (tree.app f a) (binders.app r s) = app (named names round f r) (named names round a s)
named names round t s = var []
