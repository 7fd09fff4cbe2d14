use Rattle.ol_law_optimality.proofs.each_beta_has_its_own_path.Goals as goal
use Rattle.ol_law_optimality.proofs.Runs.{each_beta_has_a_route, beta_has_one_route, no_redex_is_copied}
use Rattle.ol_law_optimality.proofs.Runs.{betas_are_routes}

pub returns-clause-route : goal.returns-clause-route
returns-clause-route c = each_beta_has_a_route

pub returns-clause-own : goal.returns-clause-own
returns-clause-own c = no_redex_is_copied

pub returns-clause-count : goal.returns-clause-count
returns-clause-count c = betas_are_routes

pub returns-clause-one : goal.returns-clause-one
returns-clause-one c = beta_has_one_route
