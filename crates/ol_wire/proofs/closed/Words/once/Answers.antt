use Rattle.std.proofs.Common.{subst}
use Rattle.ol_wire.specs.ClosedRule.{IsClosed}
use Rattle.ol_wire.proofs.Closing.Told as told
use Rattle.ol_wire.proofs.closed.Words.once.Goals as goal

pub returns-clause-once : goal.returns-clause-once
returns-clause-once c = let closed : IsClosed c.args.self.now = subst IsClosed c.self.view_is
    c.self.invariant.5 in told.once c.args.self.now closed

pub returns-clause-gone : goal.returns-clause-gone
returns-clause-gone c = let closed : IsClosed c.args.self.now = subst IsClosed c.self.view_is
    c.self.invariant.5 in told.gone c.args.self.now closed
