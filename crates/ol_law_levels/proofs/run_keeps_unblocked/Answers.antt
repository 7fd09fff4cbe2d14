use Rattle.ol_law_levels.proofs.UnblockedRuns as runs
use Rattle.ol_law_levels.proofs.run_keeps_unblocked.Goals as goal

pub returns : goal.returns
returns c = runs.run_keeps_unblocked
