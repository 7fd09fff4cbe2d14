-- No reduction by families is shorter than demand order makes beta steps.
use Rattle.ol_law_optimality.proofs.demand_is_optimal.Goals as goal
use Rattle.ol_law_optimality.proofs.Demanding.{betas_are_of_each_reduction, none_is_shorter_than_demand}
use Rattle.ol_law_optimality.proofs.Demanding.{demand_is_as_short}

pub returns-clause-each : goal.returns-clause-each
returns-clause-each c = betas_are_of_each_reduction

pub returns-clause-shorter : goal.returns-clause-shorter
returns-clause-shorter c = none_is_shorter_than_demand

pub returns-clause-reached : goal.returns-clause-reached
returns-clause-reached c = demand_is_as_short
