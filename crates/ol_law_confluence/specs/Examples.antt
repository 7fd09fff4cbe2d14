-- Small terms, so that it can be seen what the words for conversion mean.
use Rattle.std.specs.Prelude.{◌≡◌}
use Rattle.ol_term.specs.Trees.{Tree, var, free, lam, app}
use Rattle.ol_law_meaning.specs.Shows.{BetaReduces}
use Rattle.ol_law_meaning.specs.Examples.{identity, self, loops, EndsIn}
use Rattle.ol_law_confluence.specs.Reductions.{Convertible, HasNormalForm, HasHeadNormalForm, Parallel, developed}

-- \x y. x
abbrev pub first_of : Tree
first_of = lam (lam (var 1))

-- \x y. y
abbrev pub second_of : Tree
second_of = lam (lam (var 0))

-- (\x. x x) ((\x. x) y)
abbrev pub doubled : Tree
doubled = app self (app identity (free 0))

-- (\x. x x) y
abbrev pub argument_done : Tree
argument_done = app self (free 0)

-- (\x. x) y ((\x. x) y)
abbrev pub copied : Tree
copied = app (app identity (free 0)) (app identity (free 0))

-- a term with two reducts, of which neither is the other's, and where they meet
pub record TwoReducts : Type 0 where
  pub inner : BetaReduces doubled argument_done
  pub outer : BetaReduces doubled copied
  pub from_inner : BetaReduces argument_done (app (free 0) (free 0))
  pub from_outer : BetaReduces copied (app (free 0) (free 0))
  pub at_once : Parallel doubled (app (free 0) (free 0))
  pub development : developed doubled ≡ app (free 0) (free 0)

pub record SmallConversions : Type 0 where
  pub identities : Convertible (app identity identity) identity
  pub chosen : EndsIn (app (app first_of (free 0)) (free 1)) (free 0)
  pub reducts : TwoReducts
  pub no_normal_form : HasNormalForm loops → ⊥
  pub no_head_normal_form : HasHeadNormalForm loops → ⊥
  -- conversion isn't everything
  pub consistent : Convertible first_of second_of → ⊥
