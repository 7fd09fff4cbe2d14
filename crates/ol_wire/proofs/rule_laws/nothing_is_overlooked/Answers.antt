use Rattle.ol_wire.proofs.Closing.NothingLeft.{nothing_overlooked}
use Rattle.ol_wire.proofs.rule_laws.nothing_is_overlooked.Goals as goal

pub returns : goal.returns
returns c = nothing_overlooked
