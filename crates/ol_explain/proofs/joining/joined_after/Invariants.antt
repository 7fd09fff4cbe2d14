use Rattle.ol_explain.proofs.Joins.{SoFar}
use Rattle.ol_explain.proofs.joining.joined_after.Given as goal

-- the run is made again so far, and the two weren't joined
abbrev pub invariant-loop-k : goal.invariant-loop-k
invariant-loop-k l = SoFar l.net l.replay l.again l.first l.second l.k
