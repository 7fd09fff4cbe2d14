use Rattle.std.proofs.Common.{subst}
use Rattle.ol_wire.specs.ClosedRule.{IsClosed}
use Rattle.ol_wire.proofs.Closing.Stands.{settled_after}
use Rattle.ol_wire.proofs.closed.Words.settled.Goals as goal

pub returns : goal.returns
returns c = let closed : IsClosed c.args.self.now = subst IsClosed c.self.view_is c.self.invariant.5
    in record { complete = settled_after c.args.self.now closed }
