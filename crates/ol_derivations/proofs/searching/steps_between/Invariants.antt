use Rattle.ol_term.specs.Trees.{tree_of}
use Rattle.ol_derivations.proofs.Seeking.{NoneUpTo}
use Rattle.ol_derivations.proofs.searching.steps_between.Given as goal

abbrev pub invariant-loop-n : goal.invariant-loop-n
invariant-loop-n l = NoneUpTo l.n (tree_of l.t) (tree_of l.u)
