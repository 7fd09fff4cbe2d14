use Rattle.ol_law_levels.proofs.UnblockedRuns as runs
use Rattle.ol_law_levels.proofs.run_is_unstuck.Goals as goal

pub returns : goal.returns
returns c = runs.run_is_unstuck
