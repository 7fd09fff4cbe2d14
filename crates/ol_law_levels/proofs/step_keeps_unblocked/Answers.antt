use Rattle.ol_law_levels.proofs.UnblockedSteps as steps
use Rattle.ol_law_levels.proofs.step_keeps_unblocked.Goals as goal

pub returns : goal.returns
returns t c = λ same test born N M f g r n fresh s u. steps.step_keeps_unblocked same test born N M
    f g r n fresh s u
