-- Small terms, so that it can be seen what the words for reductions and trees mean.
use Rattle.std.specs.Prelude.{[], true}
use Rattle.ol_beta.specs.Leftmost.{IsNormal}
use Rattle.ol_readback.specs.Whole.{term, lost, none, more}
use Rattle.ol_readback.specs.declared.answers.HeadVar.TheVariants as head
use Rattle.ol_term.specs.Trees.{Tree, var, free, lam, app}
use Rattle.ol_law_meaning.specs.Shows.{BetaReduces, LeftmostReduces, HeadReduces, HeadReducesForever}
use Rattle.ol_law_meaning.specs.Shows.{IsHeadNormal, Fills, Shows}

-- \x. x
abbrev pub identity : Tree
identity = lam (var 0)

-- \f x. f (f x)
abbrev pub twice : Tree
twice = lam (lam (app (var 1) (app (var 1) (var 0))))

-- \x. x x
abbrev pub self : Tree
self = lam (app (var 0) (var 0))

-- (\x. x x) (\x. x x), which reduces to itself
abbrev pub loops : Tree
loops = app self self

-- Leftmost reduction of one term ends in the other, which is normal.
pub record EndsIn (t u : Tree) : Type 0 where
  pub leads : LeftmostReduces t u
  pub is_normal : IsNormal u

-- three terms with a normal form
pub record Normalize : Type 0 where
  pub identities : EndsIn (app identity identity) identity
  pub selves : EndsIn (app self identity) identity
  pub both : EndsIn (app twice identity) identity

-- a term without an end, also by leftmost reduction
pub record HasNoEnd : Type 0 where
  pub itself : BetaReduces loops loops
  pub endless : HeadReducesForever loops
  pub none : (u : Tree) → HeadReduces loops u → IsHeadNormal u → ⊥

-- (\x. y) loops: an argument without an end that isn't used
abbrev pub Unused : Type 0
Unused = EndsIn (app (lam (free 0)) loops) (free 0)

-- \x. x loops: a head normal form without a normal form. The tree whose one argument has no head, `\a. a ?`, shows it.
pub record HasHeadAlone : Type 0 where
  pub is_head : IsHeadNormal (lam (app (var 0) loops))
  pub fills : Fills true [] 0 (term 1 (head.Bound 0 1) (more lost none)) (lam (app (var 0) loops))
  pub shows : Shows true [] 0 (term 1 (head.Bound 0 1) (more lost none)) (lam (app (var 0) loops))
  pub none : (v : Tree) → LeftmostReduces (lam (app (var 0) loops)) v → IsNormal v → ⊥

pub record SmallTerms : Type 0 where
  pub normal : Normalize
  pub unused : Unused
  pub head_alone : HasHeadAlone
  pub no_end : HasNoEnd
