use Rattle.ol_law_completeness.proofs.terms_are_read_least.Goals as goal
use Rattle.ol_law_completeness.proofs.LeastTerms.{term_is_read_least, term_is_demanded_least}
use Rattle.ol_law_completeness.proofs.LeastTerms.{term_is_read_by_the_least, complete_run_is_enough}
use Rattle.ol_law_completeness.proofs.LeastTerms.{term_is_read_where_one_serves, term_net_is_fit}

pub returns-clause-least : goal.returns-clause-least
returns-clause-least c = term_is_read_least

pub returns-clause-demanded : goal.returns-clause-demanded
returns-clause-demanded c = term_is_demanded_least

pub returns-clause-complete : goal.returns-clause-complete
returns-clause-complete c = complete_run_is_enough

pub returns-clause-the_least : goal.returns-clause-the_least
returns-clause-the_least c = term_is_read_by_the_least

pub returns-clause-ends : goal.returns-clause-ends
returns-clause-ends c = term_is_read_where_one_serves

pub returns-clause-fit : goal.returns-clause-fit
returns-clause-fit c = term_net_is_fit
