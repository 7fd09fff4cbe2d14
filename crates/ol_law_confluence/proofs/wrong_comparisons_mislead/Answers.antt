-- The law of wrong comparisons.
use Rattle.ol_law_confluence.proofs.wrong_comparisons_mislead.Goals as goal
use Rattle.ol_law_confluence.proofs.WrongComparisons as wrong

pub returns-clause-numbers : goal.returns-clause-numbers
returns-clause-numbers g = wrong.numbers_mislead

pub returns-clause-cut : goal.returns-clause-cut
returns-clause-cut g = wrong.cut_misleads
