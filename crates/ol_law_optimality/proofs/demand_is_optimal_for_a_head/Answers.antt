-- No reduction by families comes to a head by fewer steps than demand order makes beta steps.
use Rattle.ol_law_optimality.proofs.demand_is_optimal_for_a_head.Goals as goal
use Rattle.ol_law_optimality.proofs.HeadReached.{demand_is_as_short_for_a_head}
use Rattle.ol_law_optimality.proofs.HeadNeeded.{betas_are_of_each_head_reduction, none_is_shorter_for_a_head}

pub returns-clause-each : goal.returns-clause-each
returns-clause-each c = betas_are_of_each_head_reduction

pub returns-clause-shorter : goal.returns-clause-shorter
returns-clause-shorter c = none_is_shorter_for_a_head

pub returns-clause-reached : goal.returns-clause-reached
returns-clause-reached c = demand_is_as_short_for_a_head
