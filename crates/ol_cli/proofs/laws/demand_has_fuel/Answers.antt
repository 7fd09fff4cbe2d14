-- The law of the fuel of demand order.
use Rattle.ol_cli.proofs.DemandedFuel.{demand_has_fuel, head_has_fuel}
use Rattle.ol_cli.proofs.laws.demand_has_fuel.Goals as goal

pub returns-clause-fuel : goal.returns-clause-fuel
returns-clause-fuel c = demand_has_fuel

pub returns-clause-head : goal.returns-clause-head
returns-clause-head c = head_has_fuel
