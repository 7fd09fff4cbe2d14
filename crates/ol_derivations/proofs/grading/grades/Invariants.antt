use Rattle.ol_derivations.specs.StudentsSoFar.{texts_of}
use Rattle.ol_derivations.proofs.InputByInput.{Behind}
use Rattle.ol_derivations.proofs.grading.grades.Given as goal

abbrev pub invariant-loop-k : goal.invariant-loop-k
invariant-loop-k l = Behind l.bounds (texts_of l.inputs) l.wanted.items l.students l.k l.text.items l.fine
