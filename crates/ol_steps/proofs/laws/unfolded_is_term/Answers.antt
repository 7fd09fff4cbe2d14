use Rattle.ol_steps.proofs.ValuesPutIn.{unfolded_is_term}
use Rattle.ol_steps.proofs.laws.unfolded_is_term.Goals as goal

pub returns : goal.returns
returns c = unfolded_is_term
