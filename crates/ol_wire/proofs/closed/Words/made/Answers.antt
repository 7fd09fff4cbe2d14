use Rattle.std.proofs.Common.{subst}
use Rattle.ol_wire.specs.ClosedRule.{IsClosed}
use Rattle.ol_wire.proofs.Closing.Told as told
use Rattle.ol_wire.proofs.closed.Words.made.Goals as goal

pub returns : goal.returns
returns c = let closed : IsClosed c.args.self.now = subst IsClosed c.self.view_is c.self.invariant.5
    in record { made = told.made c.args.self.now closed }
