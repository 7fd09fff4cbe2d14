use Rattle.std.proofs.Common.{◌≡◌, ◌+◌, All, vec_len, true, false}
use Rattle.ol_wire.specs.Stand.{IsSeatOf}
use Rattle.ol_reduce.specs.Works.{IsEnded, IsPadded}
use Rattle.ol_reduce.proofs.gathering.gather.Given as goal

abbrev pub invariant-loop-padded : goal.invariant-loop-padded
invariant-loop-padded l =
    IsSeatOf l.fn.shared l.seat
    × All (IsPadded (IsEnded l.fn.shared)) l.workers.items
    × (l.seat.view.holds + vec_len l.workers ≡ vec_len l.fn.workers)
    × (l.is_quiet ≡ true → l.seat.view.settled ≡ true)
    × (l.is_quiet ≡ false → l.seat.view.over ≡ true)

abbrev pub decreases-loop-padded : goal.decreases-loop-padded
decreases-loop-padded l = goal.left-loop-padded l
