use Rattle.ol_law_completeness.proofs.Running as running
use Rattle.ol_law_completeness.proofs.bounded_is_light.Goals as goal

pub returns : goal.returns
returns t c = λ N b n few. running.bounded_is_light N b n few
