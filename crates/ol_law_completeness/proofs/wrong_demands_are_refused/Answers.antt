use Rattle.ol_law_completeness.proofs.wrong_demands_are_refused.Goals as goal
use Rattle.ol_law_completeness.proofs.TheLeast.{one_more_is_not_least, longer_is_not_least}
use Rattle.ol_law_completeness.proofs.TheLeast.{stopped_is_not_enough, missing_is_not_enough}

pub returns-clause-one_more : goal.returns-clause-one_more
returns-clause-one_more c = one_more_is_not_least

pub returns-clause-longer : goal.returns-clause-longer
returns-clause-longer c = longer_is_not_least

pub returns-clause-stopped : goal.returns-clause-stopped
returns-clause-stopped c = stopped_is_not_enough

pub returns-clause-missing : goal.returns-clause-missing
returns-clause-missing c = missing_is_not_enough
