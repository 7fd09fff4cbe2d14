-- The names of a term's binders, in the term's shape.
use Rattle.std.specs.Prelude.{ℕ, List}
use Rattle.ol_term.specs.Trees as tree
use Rattle.ol_term.specs.Trees.{Tree}
use Rattle.ol_parse.specs.Grammar as named
use Rattle.ol_parse.specs.Grammar.{Named}

pub data Binders : Type 0 where
  leaf : Binders
  lam : List ℕ → Binders → Binders
  app : Binders → Binders → Binders

-- those of a term with names
abbrev pub binders_of : Named → Binders
binders_of (named.var x) = leaf
binders_of (named.lam x t) = lam x (binders_of t)
binders_of (named.app f a) = app (binders_of f) (binders_of a)

-- they have the shape of a tree
abbrev pub Fits : Tree → Binders → Type 0
Fits (tree.var k) leaf = Unit {0}
Fits (tree.free k) leaf = Unit {0}
Fits (tree.lam t) (lam x s) = Fits t s
Fits (tree.app f a) (app r s) = Fits f r × Fits a s
Fits _ _ = ⊥

-- those in the body of an abstraction, in the function of an application, and in its argument
abbrev pub names_in_body : Binders → Binders
names_in_body (lam x s) = s
names_in_body s = s

abbrev pub names_in_function : Binders → Binders
names_in_function (app r s) = r
names_in_function s = s

abbrev pub names_in_argument : Binders → Binders
names_in_argument (app r s) = s
names_in_argument s = s
