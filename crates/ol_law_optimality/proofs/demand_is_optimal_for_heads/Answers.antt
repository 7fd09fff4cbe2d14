-- No reduction by families comes to so many heads by fewer steps than demand order makes beta steps.
use Rattle.ol_law_optimality.proofs.demand_is_optimal_for_heads.Goals as goal
use Rattle.ol_law_optimality.proofs.FirstHeadsReached.{betas_are_of_each_reduction_to_heads, none_is_shorter_for_heads}
use Rattle.ol_law_optimality.proofs.FirstHeadsReached.{demand_is_as_short_for_heads}
use Rattle.ol_law_optimality.proofs.FirstHeadsLeftmost.{betas_are_families_up_to}
use Rattle.ol_law_optimality.proofs.FirstHeadsPrinted.{heads_are_found, printed_heads_are_as_short}
use Rattle.ol_law_optimality.proofs.FirstHeadsPrinted.{no_reduction_to_heads_is_shorter}

pub returns-clause-each : goal.returns-clause-each
returns-clause-each c = betas_are_of_each_reduction_to_heads

pub returns-clause-shorter : goal.returns-clause-shorter
returns-clause-shorter c = none_is_shorter_for_heads

pub returns-clause-reached : goal.returns-clause-reached
returns-clause-reached c = demand_is_as_short_for_heads

pub returns-clause-found : goal.returns-clause-found
returns-clause-found c = heads_are_found

pub returns-clause-printed : goal.returns-clause-printed
returns-clause-printed c = printed_heads_are_as_short

pub returns-clause-plain : goal.returns-clause-plain
returns-clause-plain c = no_reduction_to_heads_is_shorter

pub returns-clause-families : goal.returns-clause-families
returns-clause-families c = betas_are_families_up_to
