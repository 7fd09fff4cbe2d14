use Rattle.std.proofs.Common.{length}
use Rattle.ol_steps.proofs.folding.+value_at.Given as goal

abbrev pub decreases-value_at : goal.decreases-value_at
decreases-value_at l = length l.rows.now
