-- Degrees of leftmost reduction are the words of redexes that questions come to.
use Rattle.ol_law_optimality.proofs.degrees_are_wanted.Goals as goal
use Rattle.ol_law_optimality.proofs.DegreesWanted.{degrees_are_wanted, wanted_are_degrees}

pub returns-clause-degrees : goal.returns-clause-degrees
returns-clause-degrees c = degrees_are_wanted

pub returns-clause-words : goal.returns-clause-words
returns-clause-words c = wanted_are_degrees
