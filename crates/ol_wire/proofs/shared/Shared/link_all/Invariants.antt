use Rattle.std.proofs.Common.{◌≡◌}
use Rattle.ol_wire.proofs.LinkSteps.All.{AreLinking}
use Rattle.ol_wire.proofs.shared.Shared.link_all.Given as goal

abbrev pub invariant-loop-j : goal.invariant-loop-j
invariant-loop-j l = (l.token.table_id ≡ l.initial.token.table_id)
    × (l.token.me.1 ≡ l.initial.token.me.1)
    × AreLinking l.fn.self.plan.parts l.initial.token.me.0 l.begun l.j l.mask l.owed l.token.me.0
