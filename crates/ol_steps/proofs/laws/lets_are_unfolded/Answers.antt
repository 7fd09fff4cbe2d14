use Rattle.ol_steps.proofs.Unfoldings.{lets_are_unfolded}
use Rattle.ol_steps.proofs.laws.lets_are_unfolded.Goals as goal

pub returns : goal.returns
returns c = lets_are_unfolded
