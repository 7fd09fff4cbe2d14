use Rattle.ol_law_optimality.proofs.Asked as asked
use Rattle.ol_law_optimality.proofs.demand_contracts_what_is_seen.Goals as goal
use Rattle.ol_law_optimality.proofs.Asked.{betas_of_demand, demand_contracts_the_seen, demand_contracts_the_fewest}
use Rattle.ol_law_optimality.proofs.Seen as seen

pub returns-clause-contracted : goal.returns-clause-contracted
returns-clause-contracted c = seen.seen_are_contracted

pub returns-clause-demand : goal.returns-clause-demand
returns-clause-demand c = demand_contracts_the_seen

pub returns-clause-fewest : goal.returns-clause-fewest
returns-clause-fewest c = demand_contracts_the_fewest

pub returns-clause-answered : goal.returns-clause-answered
returns-clause-answered c = betas_of_demand

pub returns-clause-term : goal.returns-clause-term
returns-clause-term c = asked.betas_of_a_term
