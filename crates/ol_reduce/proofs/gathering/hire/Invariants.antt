use Rattle.std.proofs.Common.{◌≡◌, ◌+◌, All, vec_len}
use Rattle.ol_wire.specs.Stand.{IsNewSeat}
use Rattle.ol_reduce.specs.Started.{HasStarted}
use Rattle.ol_reduce.specs.Works.{IsWorker, IsPadded}
use Rattle.ol_reduce.proofs.gathering.hire.Given as goal

abbrev pub invariant-loop-seat : goal.invariant-loop-seat
invariant-loop-seat l =
    All (IsNewSeat l.fn.shared) l.seats.items
    × All (HasStarted l.fn.pool l.fn.shared.plan.parts.cells) l.hands.items
    × All (IsPadded (IsWorker l.fn.shared l.fn.pool)) l.workers.items
    × (vec_len l.hands ≡ vec_len l.seats)
    × (vec_len l.seats + vec_len l.workers ≡ vec_len l.fn.seats)

abbrev pub decreases-loop-seat : goal.decreases-loop-seat
decreases-loop-seat l = vec_len l.seats
