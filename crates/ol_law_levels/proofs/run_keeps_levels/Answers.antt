use Rattle.ol_law_levels.proofs.Runs.{run_keeps, graph_run_keeps}
use Rattle.ol_law_levels.proofs.run_keeps_levels.Goals as goal

pub returns-clause-named : goal.returns-clause-named
returns-clause-named c = run_keeps

pub returns-clause-numbered : goal.returns-clause-numbered
returns-clause-numbered c = graph_run_keeps
