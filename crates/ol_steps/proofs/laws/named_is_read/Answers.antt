use Rattle.ol_steps.proofs.Spelled.{named_is_read}
use Rattle.ol_steps.proofs.laws.named_is_read.Goals as goal

pub returns : goal.returns
returns c = named_is_read
