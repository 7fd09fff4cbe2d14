use Rattle.ol_law_completeness.proofs.Lightening as lightening
use Rattle.ol_law_completeness.proofs.step_lightens.Goals as goal

pub returns : goal.returns
returns t c = λ same test born N M f g r n fresh s m w. lightening.step_lightens same test born N M f
    g r n fresh s m w
