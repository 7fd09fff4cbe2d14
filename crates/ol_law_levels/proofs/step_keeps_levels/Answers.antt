use Rattle.ol_law_levels.proofs.Steps as steps
use Rattle.ol_law_levels.proofs.step_keeps_levels.Goals as goal

pub returns : goal.returns
returns t c = λ same test born N M f g r n fresh s L. steps.step_keeps_levels same test born N M f
    g r n fresh s L
