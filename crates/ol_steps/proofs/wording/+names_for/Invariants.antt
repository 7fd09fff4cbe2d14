use Rattle.std.proofs.Common.{length}
use Rattle.ol_steps.proofs.wording.+names_for.Given as goal

abbrev pub decreases-names_for : goal.decreases-names_for
decreases-names_for l = length l.rows.now
