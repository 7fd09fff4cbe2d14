use Rattle.ol_view.proofs.FedRuns.{fed_run, run_not_answered}
use Rattle.ol_view.proofs.laws.fed_is_a_run.Goals as goal

pub returns-clause-run : goal.returns-clause-run
returns-clause-run c = fed_run

pub returns-clause-not_answered : goal.returns-clause-not_answered
returns-clause-not_answered c = run_not_answered
