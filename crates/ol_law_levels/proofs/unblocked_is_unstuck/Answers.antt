use Rattle.ol_law_levels.proofs.UnblockedRuns as runs
use Rattle.ol_law_levels.proofs.unblocked_is_unstuck.Goals as goal

pub returns : goal.returns
returns t c = λ N L u. runs.unblocked_is_unstuck N L u
