-- The law of small terms.
use Rattle.ol_law_meaning.proofs.small_terms.Goals as goal
use Rattle.ol_law_meaning.proofs.SmallTerms.{small}

pub returns : goal.returns
returns g = small
