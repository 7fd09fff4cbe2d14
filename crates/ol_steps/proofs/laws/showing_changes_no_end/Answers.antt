use Rattle.ol_steps.proofs.Unchanged.{showing_changes_no_end}
use Rattle.ol_steps.proofs.laws.showing_changes_no_end.Goals as goal

pub returns : goal.returns
returns c = showing_changes_no_end
