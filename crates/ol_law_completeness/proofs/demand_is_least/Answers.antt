use Rattle.ol_law_completeness.proofs.demand_is_least.Goals as goal
use Rattle.ol_law_completeness.proofs.CompleteRuns.{demanded_is_least}
use Rattle.ol_law_completeness.proofs.Demanded.{demanded_is_enough}
use Rattle.ol_law_completeness.proofs.Least.{demand_is_least}
use Rattle.ol_law_completeness.proofs.Served.{ends_where_one_serves}
use Rattle.ol_law_completeness.proofs.TheLeast.{demand_is_the_least}

pub returns-clause-least : goal.returns-clause-least
returns-clause-least c = demand_is_least

pub returns-clause-demanded : goal.returns-clause-demanded
returns-clause-demanded c = demanded_is_least

pub returns-clause-enough : goal.returns-clause-enough
returns-clause-enough c = demanded_is_enough

pub returns-clause-the_least : goal.returns-clause-the_least
returns-clause-the_least c = demand_is_the_least

pub returns-clause-ends : goal.returns-clause-ends
returns-clause-ends c = ends_where_one_serves
