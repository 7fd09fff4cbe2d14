use Rattle.ol_law_levels.proofs.UnblockedTerms as terms
use Rattle.ol_law_levels.proofs.term_is_unblocked.Goals as goal

pub returns : goal.returns
returns c = terms.term_is_unblocked
