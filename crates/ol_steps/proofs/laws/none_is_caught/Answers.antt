use Rattle.ol_steps.proofs.Catching.{none_is_caught}
use Rattle.ol_steps.proofs.laws.none_is_caught.Goals as goal

pub returns : goal.returns
returns c = none_is_caught
