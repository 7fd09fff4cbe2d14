-- What the fewest steps by families are to leftmost reduction.
use Rattle.ol_law_optimality.proofs.Fewest.{fewest_are_families, fewest_are_all_families, fewest_is_frugal}
use Rattle.ol_law_optimality.proofs.fewest_are_families.Goals as goal

pub returns-clause-families : goal.returns-clause-families
returns-clause-families c = fewest_are_families

pub returns-clause-all : goal.returns-clause-all
returns-clause-all c = fewest_are_all_families

pub returns-clause-frugal : goal.returns-clause-frugal
returns-clause-frugal c = fewest_is_frugal
