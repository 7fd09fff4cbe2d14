-- Private: an application, made of the term of a function and the term of a line.
use Rattle.std.specs.Prelude.{ℕ, suc, ◌<◌, List, Option, Some, None}
use Rattle.ol_limits.specs.Limits.{most_depth}
use Rattle.ol_term.specs.Trees as tree
use Rattle.ol_term.specs.Trees.{Tree, tree_of, depth}
use Rattle.ol_parse.specs.Grammar.{Named, app}
use Rattle.ol_parse.specs.Texts.{IsText}
use Rattle.ol_parse.specs.Numbered.{number}
use Rattle.ol_parse.specs.Parsed.{IsFileOf}
use Rattle.ol_derivations.specs.Applied.{ToArguments}
use Rattle.ol_derivations.specs.Derivations.{IsTermLine}
use Rattle.ol_derivations.specs.Grades.{IsTermText}
use Rattle.ol_derivations.specs.declared.applying.Function.{Function}
use Rattle.ol_derivations.specs.declared.applying.Input.{Input}

-- the tree `f t a1 .. an` of a function f and of the tree `t a1 .. an`
abbrev pub with_function : Tree → ℕ → Tree → Tree
with_function f (suc n) (tree.app g a) = tree.app (with_function f n g) a
with_function f _ t = tree.app f t

-- the same of terms with names
abbrev pub named_with_function : Named → ℕ → Named → Named
named_with_function f (suc n) (app g a) = app (named_with_function f n g) a
named_with_function f _ t = app f t

-- the number of arguments of a tree's head
abbrev pub arguments_of : Tree → ℕ
arguments_of (tree.app f a) = suc (arguments_of f)
arguments_of _ = 0

-- the line is `t a1 .. an` with this number n: a function f before it makes `f t a1 .. an`
pub record HasArguments (line : List ℕ) (n : ℕ) : Type 0 where
  pub term : Named
  pub text : IsText line term
  pub applied : (f : Named) → ToArguments f text.tokens (named_with_function f n term)

-- the number of arguments after the first; None only if each function, applied to the line, is too deep
abbrev pub IsFurther : List ℕ → Option ℕ → Type 0
IsFurther line (Some n) = HasArguments line n
IsFurther line None = (n : ℕ) × (h : HasArguments line n)
    × ((f : Named) → most_depth < depth (number (named_with_function f n h.term)))

pub record IsFunction (f : Function) : Type 0 where
  pub text : IsTermText f.text.now
  pub file : IsFileOf f.text.now (tree_of f.file.term) f.file.names

pub record IsInput (i : Input) : Type 0 where
  pub line : IsTermLine i.text.now (tree_of i.file.term) i.file.names
  pub arguments : IsFurther i.text.now i.further
