use Rattle.ol_diamond.proofs.one_thread.one_thread_agrees.Goals as goal
use Rattle.ol_diamond.proofs.OneThread as laws

pub returns-clause-exists : goal.returns-clause-exists
returns-clause-exists c = laws.one_thread_exists

pub returns-clause-done : goal.returns-clause-done
returns-clause-done c = laws.done_tells

pub returns-clause-spent : goal.returns-clause-spent
returns-clause-spent c = laws.spent_tells

pub returns-clause-longer : goal.returns-clause-longer
returns-clause-longer c = laws.longer_tells

pub returns-clause-ends : goal.returns-clause-ends
returns-clause-ends c = laws.ends_where_some_ends
