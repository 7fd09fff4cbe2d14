-- A tree with the names that it is printed with.
use Rattle.std.specs.Prelude.{ℕ, ◌+◌, ◌-◌, slice_index_or, List, []}
use Rattle.ol_term.specs.Trees as tree
use Rattle.ol_term.specs.Trees.{Tree}
use Rattle.ol_term.specs.BinderNames.{binder_name}
use Rattle.ol_parse.specs.Grammar.{Named, var, lam, app}

-- with t binders round it
abbrev pub lettered : List (List ℕ) → ℕ → Tree → Named
lettered names t (tree.var k) = var (binder_name names (t - (k + 1)))
lettered names t (tree.free k) = var (slice_index_or names k [])
lettered names t (tree.lam u) = lam (binder_name names t) (lettered names (t + 1) u)
lettered names t (tree.app f a) = app (lettered names t f) (lettered names t a)
