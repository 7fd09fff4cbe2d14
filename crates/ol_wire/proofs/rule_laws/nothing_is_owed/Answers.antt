use Rattle.ol_wire.proofs.Credit.Owed.{nothing_owed}
use Rattle.ol_wire.proofs.rule_laws.nothing_is_owed.Goals as goal

pub returns : goal.returns
returns c = nothing_owed
