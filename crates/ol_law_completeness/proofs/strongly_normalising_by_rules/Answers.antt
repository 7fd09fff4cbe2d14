use Rattle.ol_law_completeness.proofs.Strong as strong
use Rattle.ol_law_completeness.proofs.strongly_normalising_by_rules.Goals as goal

pub returns : goal.returns
returns c = strong.strongly_normalising_by_rules
