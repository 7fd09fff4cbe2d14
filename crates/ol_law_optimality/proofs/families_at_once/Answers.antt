-- What family steps are.
use Rattle.ol_law_optimality.proofs.families_at_once.Goals as goal
use Rattle.ol_law_optimality.proofs.Developing.{family_steps_develop}
use Rattle.ol_law_optimality.proofs.HeadReached.{head_families_are_whole}
use Rattle.ol_law_optimality.proofs.Steps.{at_once_is_one_step, whole_family_is_one}
use Rattle.ol_law_optimality.proofs.Steps.{whole_families_are_families, leftmost_families_are_whole}

pub returns-clause-step : goal.returns-clause-step
returns-clause-step c = at_once_is_one_step

pub returns-clause-whole : goal.returns-clause-whole
returns-clause-whole c = whole_family_is_one

pub returns-clause-reduction : goal.returns-clause-reduction
returns-clause-reduction c = whole_families_are_families

pub returns-clause-develop : goal.returns-clause-develop
returns-clause-develop c = family_steps_develop

pub returns-clause-heads : goal.returns-clause-heads
returns-clause-heads c = head_families_are_whole

pub returns-clause-leftmost : goal.returns-clause-leftmost
returns-clause-leftmost c = leftmost_families_are_whole
