use Rattle.std.proofs.Common.{◌≡◌, false}
use Rattle.ol_wire.specs.Layout.{cells_of}
use Rattle.ol_reduce.specs.Passed.{HasPassed}
use Rattle.ol_reduce.specs.Worked.{HasWorked}
use Rattle.ol_reduce.specs.Works.{HasKept}
use Rattle.ol_reduce.proofs.working.go_round.Given as goal

abbrev pub invariant-loop-passed : goal.invariant-loop-passed
invariant-loop-passed g l =
    HasKept l.shared l.pool l.fn.own false l.own
    × (l.own.hand.missed ≡ l.fn.own.hand.missed)
    × HasWorked l.shared.plan.parts l.fn.own.seat.view l.own.seat.view
    × HasPassed (cells_of l.shared.plan.parts) l.fn.pace.next l.pace.next l._passed l.fn.own l.own
