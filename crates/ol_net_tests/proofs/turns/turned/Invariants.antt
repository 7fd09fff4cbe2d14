use Rattle.ol_wire.specs.Stand.{IsSeatOf}
use Rattle.ol_net_tests.proofs.turns.turned.Given as goal

abbrev pub invariant-loop-cell : goal.invariant-loop-cell
invariant-loop-cell l = IsSeatOf l.table l.seat
