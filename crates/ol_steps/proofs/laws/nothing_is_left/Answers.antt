use Rattle.ol_steps.proofs.Complete.{nothing_is_left}
use Rattle.ol_steps.proofs.laws.nothing_is_left.Goals as goal

pub returns : goal.returns
returns c = nothing_is_left
