use Rattle.ol_steps.proofs.Unchanged.{each_counts}
use Rattle.ol_steps.proofs.laws.each_step_counts.Goals as goal

pub returns : goal.returns
returns c = each_counts
