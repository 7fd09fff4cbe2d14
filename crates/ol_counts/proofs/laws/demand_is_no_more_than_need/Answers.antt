-- Demand order makes no more beta steps than call-by-need.
use Rattle.ol_counts.proofs.laws.demand_is_no_more_than_need.Goals as goal
use Rattle.ol_counts.proofs.Heading.{demand_is_no_more_than_need_for_a_head}
use Rattle.ol_counts.proofs.Ending.{need_is_by_families, need_ends_in_the_normal_form, demand_is_no_more_than_need}

pub returns-clause-families : goal.returns-clause-families
returns-clause-families c = need_is_by_families

pub returns-clause-normal : goal.returns-clause-normal
returns-clause-normal c = need_ends_in_the_normal_form

pub returns-clause-demand : goal.returns-clause-demand
returns-clause-demand c = demand_is_no_more_than_need

pub returns-clause-head : goal.returns-clause-head
returns-clause-head c = demand_is_no_more_than_need_for_a_head
