use Rattle.ol_law_completeness.proofs.the_least_is_one.Goals as goal
use Rattle.ol_law_completeness.proofs.TheLeast.{least_is_in_common, the_least_is_one}

pub returns-clause-common : goal.returns-clause-common
returns-clause-common c = least_is_in_common

pub returns-clause-one : goal.returns-clause-one
returns-clause-one c = the_least_is_one
