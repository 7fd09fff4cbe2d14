-- The law of standard and leftmost reduction.
use Rattle.ol_law_confluence.proofs.standardization.Goals as goal
use Rattle.ol_law_confluence.proofs.Standards.{standardized, standard_beta}
use Rattle.ol_law_confluence.proofs.LeftmostEnds.{leftmost_finds}

pub returns-clause-standard : goal.returns-clause-standard
returns-clause-standard g = λ t u. (λ l. standardized l, λ s. standard_beta s)

pub returns-clause-leftmost : goal.returns-clause-leftmost
returns-clause-leftmost g = λ t v l n. leftmost_finds l n
