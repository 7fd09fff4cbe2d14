use Rattle.std.proofs.Common.{subst}
use Rattle.ol_wire.specs.ClosedRule.{IsClosed}
use Rattle.ol_wire.proofs.Closing.Stands.{stands_told}
use Rattle.ol_wire.proofs.closed.Words.stands.Goals as goal

pub returns : goal.returns
returns c = let closed : IsClosed c.args.self.now = subst IsClosed c.self.view_is c.self.invariant.5
    in record { stands = stands_told c.args.self.now closed }
