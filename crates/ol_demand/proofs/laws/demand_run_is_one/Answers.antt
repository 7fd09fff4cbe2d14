use Rattle.ol_demand.proofs.OneDemand.{demand_is_one, front_is_one, ends_or_goes_on}
use Rattle.ol_demand.proofs.laws.demand_run_is_one.Goals as goal

pub returns-clause-one : goal.returns-clause-one
returns-clause-one c = demand_is_one

pub returns-clause-front : goal.returns-clause-front
returns-clause-front c = front_is_one

pub returns-clause-ends : goal.returns-clause-ends
returns-clause-ends c = ends_or_goes_on
