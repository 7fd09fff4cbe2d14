use Rattle.std.proofs.Common.{subst}
use Rattle.ol_wire.specs.ClosedRule.{IsClosed}
use Rattle.ol_wire.proofs.Closing.Told as told
use Rattle.ol_wire.proofs.closed.Words.runs.Goals as goal

pub returns-clause-some : goal.returns-clause-some
returns-clause-some c = let closed : IsClosed c.args.self.now = subst IsClosed c.self.view_is
    c.self.invariant.5 in (closed.kept.net, told.after c.args.self.now closed)

pub returns-clause-one : goal.returns-clause-one
returns-clause-one c = let closed : IsClosed c.args.self.now = subst IsClosed c.self.view_is
    c.self.invariant.5 in told.one_after c.args.self.now closed
