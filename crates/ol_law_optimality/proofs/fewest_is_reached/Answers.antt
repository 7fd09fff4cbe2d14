-- There is a family reduction with as many steps as there are families.
use Rattle.ol_law_optimality.proofs.fewest_is_reached.Goals as goal
use Rattle.ol_law_optimality.proofs.HeadReached.{fewest_for_a_head}
use Rattle.ol_law_optimality.proofs.Once.{no_family_twice, needed_families_are_fewest}
use Rattle.ol_law_optimality.proofs.Reached.{fewest_is_reached}

pub returns-clause-once : goal.returns-clause-once
returns-clause-once c = no_family_twice

pub returns-clause-reached : goal.returns-clause-reached
returns-clause-reached c = fewest_is_reached

pub returns-clause-needed : goal.returns-clause-needed
returns-clause-needed c = needed_families_are_fewest

pub returns-clause-head : goal.returns-clause-head
returns-clause-head c = fewest_for_a_head
