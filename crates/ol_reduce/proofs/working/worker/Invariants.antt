use Rattle.std.proofs.Common.{false}
use Rattle.ol_reduce.specs.Worked.{HasWorked}
use Rattle.ol_reduce.specs.Works.{HasKept}
use Rattle.ol_reduce.proofs.working.worker.Given as goal

abbrev pub invariant-loop : goal.invariant-loop
invariant-loop g l = HasKept l.shared l.pool l.fn.own false l.own
    × HasWorked l.shared.plan.parts l.fn.own.seat.view l.own.seat.view
