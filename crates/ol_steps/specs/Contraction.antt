-- The names of a term's binders after contraction of a redex: each abstraction keeps its name, and copies of the
-- argument have its names.
use Rattle.std.specs.Prelude.{ℕ, ◌+◌, ◌==◌, if◌then◌else◌, List, [], ◌∷◌}
use Rattle.ol_term.specs.Trees as tree
use Rattle.ol_term.specs.Trees.{Tree}
use Rattle.ol_steps.specs.Binders.{Binders, leaf, lam, app}

-- those of a body, with those of an argument in each place of variable d
abbrev pub put_in : Binders → ℕ → Tree → Binders → Binders
put_in c d (tree.var k) s = if k == d then c else leaf
put_in c d (tree.lam t) (lam x s) = lam x (put_in c (d + 1) t s)
put_in c d (tree.app f a) (app r s) = app (put_in c d f r) (put_in c d a s)
put_in c d t s = leaf

-- those of a function that is applied, with those of its argument
abbrev pub applied : Tree → Binders → Binders → Binders
applied (tree.lam b) (lam x r) c = put_in c 0 b r
applied t r c = leaf

-- those after contraction of the redex at an address
abbrev pub contracted : Tree → Binders → List ℕ → Binders
contracted (tree.lam t) (lam x s) (m ∷ at) = lam x (contracted t s at)
contracted (tree.app f a) (app r s) [] = applied f r s
contracted (tree.app f a) (app r s) (m ∷ at) =
    if m == 1 then app (contracted f r at) s else app r (contracted a s at)
contracted t s at = s
