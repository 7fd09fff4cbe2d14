-- A function applied to arguments that stand in a line.
use Rattle.std.specs.Prelude.{◌≡◌, ℕ, false, List, ◌++◌}
use Rattle.ol_term.specs.Trees.{Tree}
use Rattle.ol_parse.specs.Grammar.{Named, app, Token, IsAtom, IsBody}
use Rattle.ol_parse.specs.Texts.{Spells, IsText}
use Rattle.ol_parse.specs.Numbered.{names_of, number}

-- a term, applied to one or more atoms from the left
pub data ToAtoms (f : Named) : List Token → Named → Type 0 where
  one : {a : List Token} {t : Named} → IsAtom a t → ToAtoms f a (app f t)
  more : {a b : List Token} {g t : Named} → ToAtoms f a g → IsAtom b t → ToAtoms f (a ++ b) (app g t)

-- a term, applied to atoms, or to a body, or to atoms and the body behind them
pub data ToArguments (f : Named) : List Token → Named → Type 0 where
  atoms : {a : List Token} {t : Named} → ToAtoms f a t → ToArguments f a t
  body : {a : List Token} {t : Named} → IsBody a t → ToArguments f a (app f t)
  both : {a b : List Token} {g t : Named} → ToAtoms f a g → IsBody b t → ToArguments f (a ++ b) (app g t)

-- The term of a function's text, applied to the arguments of a line: its tree, and its free names. A name is free in it
-- where it is free in the function or in an argument, and is the same in both if it is spelled the same.
pub record IsApplied (function line : List ℕ) (t : Tree) (names : List (List ℕ)) : Type 0 where
  pub of : Named
  pub text : IsText function of
  pub tokens : List Token
  pub spelled : Spells false tokens line
  pub whole : Named
  pub applied : ToArguments of tokens whole
  pub tree : t ≡ number whole
  pub free_names : names ≡ names_of whole
