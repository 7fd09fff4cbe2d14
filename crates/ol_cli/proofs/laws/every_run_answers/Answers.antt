use Rattle.ol_cli.proofs.EveryRun.{every_run_prints, every_run_is_longer}
use Rattle.ol_cli.proofs.laws.every_run_answers.Goals as goal

pub returns-clause-prints : goal.returns-clause-prints
returns-clause-prints c = every_run_prints

pub returns-clause-longer : goal.returns-clause-longer
returns-clause-longer c = every_run_is_longer
