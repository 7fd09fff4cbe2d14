use Rattle.std.proofs.Common.{ℕ, ◌+◌, ◌*◌, ◌<◌, ◌≤◌}
use Rattle.ol_orders.specs.Walked.{NoneTake}
use Rattle.ol_orders.proofs.Trying.{HasFailed}
use Rattle.ol_orders.proofs.comparing.+seeking.Given as goal

abbrev pub decreases-seek : goal.decreases-seek
decreases-seek l = 3 * l.tries.now + 2

abbrev pub decreases-try_each : goal.decreases-try_each
decreases-try_each l = 3 * l.tries.now + 1

abbrev pub decreases-try_pair : goal.decreases-try_pair
decreases-try_pair l = 3 * l.tries.now

abbrev pub invariant-try_each-loop-n : goal.invariant-try_each-loop-n
invariant-try_each-loop-n l =
    (l.tries ≤ l.fn.tries) × ((y : ℕ) → y < l.n → NoneTake l.a l.b l.met.pairs.items l.x.0 y)
    × HasFailed l.a l.b l.met.pairs.items l.x.0 l.fn.tries l.n l.tries
