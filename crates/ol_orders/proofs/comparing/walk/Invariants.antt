use Rattle.std.proofs.Common.{◌+◌, ◌-◌, ◌*◌, length}
use Rattle.ol_orders.specs.Same.{Walks}
use Rattle.ol_orders.specs.Meetings.{AreTables}
use Rattle.ol_orders.proofs.comparing.walk.Given as goal

abbrev pub invariant-loop-at : goal.invariant-loop-at
invariant-loop-at l =
    AreTables l.a l.b l.met × Walks l.a l.b l.from l.fn.met.pairs.items l.at l.met.pairs.items

abbrev pub decreases-loop-at : goal.decreases-loop-at
decreases-loop-at l = (l.a.free + 3 * length l.a.nodes) - l.at
