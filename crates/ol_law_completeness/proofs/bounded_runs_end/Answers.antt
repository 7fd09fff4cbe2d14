use Rattle.ol_law_completeness.proofs.Running as running
use Rattle.ol_law_completeness.proofs.bounded_runs_end.Goals as goal

pub returns-clause-short : goal.returns-clause-short
returns-clause-short c = running.short

pub returns-clause-ends : goal.returns-clause-ends
returns-clause-ends c = running.ends

pub returns-clause-complete : goal.returns-clause-complete
returns-clause-complete c = running.complete

pub returns-clause-graph : goal.returns-clause-graph
returns-clause-graph c = running.graph
