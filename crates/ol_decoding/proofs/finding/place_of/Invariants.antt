use Rattle.ol_decoding.proofs.Placed.{Found}
use Rattle.ol_decoding.proofs.finding.place_of.Given as goal

abbrev pub invariant-loop-k : goal.invariant-loop-k
invariant-loop-k l = Found l.tree l.path l.k l.at
