use Rattle.std.proofs.Common.{subst}
use Rattle.ol_wire.specs.ClosedRule.{IsClosed}
use Rattle.ol_wire.proofs.Closing.Told as told
use Rattle.ol_wire.proofs.closed.Words.over.Goals as goal

pub returns-clause-fuel : goal.returns-clause-fuel
returns-clause-fuel c = let closed : IsClosed c.args.self.now = subst IsClosed c.self.view_is
    c.self.invariant.5 in told.used_up c.args.self.now closed

pub returns-clause-active : goal.returns-clause-active
returns-clause-active c = let closed : IsClosed c.args.self.now = subst IsClosed c.self.view_is
    c.self.invariant.5 in told.active_after c.args.self.now closed
