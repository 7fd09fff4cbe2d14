use Rattle.std.proofs.Common.{take}
use Rattle.std.specs.List.{AllZip}
use Rattle.ol_derivations.specs.Reads.{HasWholeTree}
use Rattle.ol_derivations.specs.StudentsSoFar.{texts_of}
use Rattle.ol_derivations.proofs.grading.trees_of.Given as goal

abbrev pub invariant-loop-k : goal.invariant-loop-k
invariant-loop-k l = AllZip (HasWholeTree l.bounds l.solution.text.now) (take l.k (texts_of l.inputs)) l.trees.items
