use Rattle.ol_law_completeness.proofs.Bounding as bounding
use Rattle.ol_law_completeness.proofs.Terms as terms
use Rattle.ol_law_completeness.proofs.strongly_normalising_ends.Goals as goal

pub returns-clause-bounded : goal.returns-clause-bounded
returns-clause-bounded c = bounding.strong_is_bounded

pub returns-clause-ends : goal.returns-clause-ends
returns-clause-ends c = terms.strongly_normalising_ends
