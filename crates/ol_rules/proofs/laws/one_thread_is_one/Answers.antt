use Rattle.ol_rules.proofs.OneRun.{one_thread_one, complete_or_active}
use Rattle.ol_rules.proofs.laws.one_thread_is_one.Goals as goal

pub returns-clause-one : goal.returns-clause-one
returns-clause-one c = λ M N P Q fuel es es' n b m o o'. one_thread_one M N P Q fuel es es' n b m o o'

pub returns-clause-ends : goal.returns-clause-ends
returns-clause-ends c = λ M N P Q fuel es es' n b m o o' d a. complete_or_active M N P Q fuel es es' n b m o o' d a
