use Rattle.ol_strategies.proofs.Rounds.{step_is_one, reduct_is_one, return_is_endless}
use Rattle.ol_strategies.proofs.laws.orders_are_one.Goals as goal

pub returns-clause-step : goal.returns-clause-step
returns-clause-step c = step_is_one

pub returns-clause-steps : goal.returns-clause-steps
returns-clause-steps c = reduct_is_one

pub returns-clause-endless : goal.returns-clause-endless
returns-clause-endless c = return_is_endless
