use Rattle.ol_law_completeness.proofs.normal_form_has_heads.Goals as goal
use Rattle.ol_law_completeness.proofs.Normalizing.{normal_form_has_heads}

pub returns : goal.returns
returns c = normal_form_has_heads
