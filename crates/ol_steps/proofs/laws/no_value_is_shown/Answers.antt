use Rattle.ol_steps.proofs.Unfoldings.{no_value_is_shown}
use Rattle.ol_steps.proofs.laws.no_value_is_shown.Goals as goal

pub returns : goal.returns
returns c = no_value_is_shown
