use Rattle.ol_invariance.proofs.Runs.{run_keeps, graph_run_keeps}
use Rattle.ol_invariance.proofs.laws.journal_keeps_paths.Goals as goal

pub returns-clause-named : goal.returns-clause-named
returns-clause-named c = run_keeps

pub returns-clause-numbered : goal.returns-clause-numbered
returns-clause-numbered c = graph_run_keeps
