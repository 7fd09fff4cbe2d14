use Rattle.std.proofs.Common.{◌≡◌}
use Rattle.ol_wire.specs.Stand.{IsSeatOf}
use Rattle.ol_net_tests.proofs.closing.turns.Given as goal

abbrev pub invariant-loop-cell : goal.invariant-loop-cell
invariant-loop-cell l = IsSeatOf l.table l.seat × (l.seat.view.holds ≡ l.fn.seat.view.holds)
