-- Redexes with different words are no more than families.
use Rattle.ol_law_optimality.proofs.no_more_than_families.Goals as goal
use Rattle.ol_law_optimality.proofs.Families.{no_more_than_families, no_more_than_leftmost_families}
use Rattle.ol_law_optimality.proofs.Leftwards.{words_are_leftmost_degrees}

pub returns-clause-head : goal.returns-clause-head
returns-clause-head c = no_more_than_families

pub returns-clause-words : goal.returns-clause-words
returns-clause-words c = words_are_leftmost_degrees

pub returns-clause-leftmost : goal.returns-clause-leftmost
returns-clause-leftmost c = no_more_than_leftmost_families
