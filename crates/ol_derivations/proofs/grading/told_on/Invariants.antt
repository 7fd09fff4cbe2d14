use Rattle.std.proofs.Common.{take}
use Rattle.std.specs.List.{AllZip}
use Rattle.ol_derivations.specs.Grades.{IsRight}
use Rattle.ol_derivations.specs.StudentsSoFar.{texts_of}
use Rattle.ol_derivations.proofs.grading.told_on.Given as goal

abbrev pub invariant-loop-k : goal.invariant-loop-k
invariant-loop-k l = AllZip (IsRight l.bounds l.student.text.now) (take l.k (texts_of l.inputs)) (take l.k l.wanted.items)
