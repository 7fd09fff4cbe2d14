use Rattle.ol_net.specs.Numbered.{net_of}
use Rattle.ol_net.proofs.Reading.{StuckBelow}
use Rattle.ol_net.proofs.facing.stuck_in.Given as goal

abbrev pub invariant-loop-n : goal.invariant-loop-n
invariant-loop-n l = StuckBelow (net_of (record { free = l.free; nodes = l.nodes; partners = l.partners })) l.n l.pairs
