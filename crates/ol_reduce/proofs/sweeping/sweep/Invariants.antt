use Rattle.std.proofs.Common.{◌≡◌}
use Rattle.ol_wire.specs.Stand.{IsSeatOf}
use Rattle.ol_reduce.proofs.Turns.{IsAt}
use Rattle.ol_reduce.proofs.sweeping.sweep.Given as goal

abbrev pub invariant-loop-cell : goal.invariant-loop-cell
invariant-loop-cell l = IsSeatOf l.shared l.seat × (l.seat.view.holds ≡ l.fn.seat.view.holds)
    × IsAt l.shared.plan.parts l.fn.seat.view l.cell l.seat.view
