use Rattle.ol_explain.specs.Found.{AreFound}
use Rattle.ol_explain.proofs.left.find.Given as goal

-- those of the nodes so far are found
abbrev pub invariant-loop-n : goal.invariant-loop-n
invariant-loop-n l = AreFound l.replay l.n l.found.told l.found.more
