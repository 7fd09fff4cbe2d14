use Rattle.ol_steps.proofs.Worded.{text_has_names}
use Rattle.ol_steps.proofs.laws.text_has_names.Goals as goal

pub returns : goal.returns
returns c = text_has_names
