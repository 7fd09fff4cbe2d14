use Rattle.ol_law_levels.proofs.Terms as terms
use Rattle.ol_law_levels.proofs.term_is_levelled.Goals as goal

pub returns : goal.returns
returns c = terms.term_is_levelled
