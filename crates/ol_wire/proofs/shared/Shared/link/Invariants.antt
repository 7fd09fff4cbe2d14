use Rattle.std.proofs.Common.{◌≡◌, ◌+◌, ◌-◌}
use Rattle.ol_wire.specs.Layout.{table_size}
use Rattle.ol_wire.specs.LinkSteps.{spread}
use Rattle.ol_wire.proofs.LinkSteps.All.{IsLinking}
use Rattle.ol_wire.proofs.shared.Shared.link.Given as goal

abbrev pub invariant-loop-wire : goal.invariant-loop-wire
invariant-loop-wire l = (l.token.table_id ≡ l.initial.token.table_id)
    × (l.token.me.1 ≡ l.initial.token.me.1)
    × IsLinking l.fn.self.plan.parts l.initial.token.me.0 l.cell l.a l.b l.token.me.0

abbrev pub decreases-loop-wire : goal.decreases-loop-wire
decreases-loop-wire l = table_size l.fn.self.plan.parts + 1 - spread (table_size l.fn.self.plan.parts) l.token.me.0.dead
