use Rattle.ol_law_levels.proofs.Names as names
use Rattle.ol_law_levels.proofs.TermRuns as runs
use Rattle.ol_law_levels.proofs.unblocked_has_no_names.Goals as goal

pub returns-clause-same : goal.returns-clause-same
returns-clause-same t c = λ M N s u x k i w h o r. names.same_unblocked M N s u x k i w h o r

pub returns-clause-start : goal.returns-clause-start
returns-clause-start t c = runs.start_unblocked
