use Rattle.ol_cli.proofs.AnyRun.{any_run_ends, any_run_prints, any_run_runs_out, one_thread_is_there}
use Rattle.ol_cli.proofs.laws.any_run_tells.Goals as goal

pub returns-clause-there : goal.returns-clause-there
returns-clause-there c = one_thread_is_there

pub returns-clause-prints : goal.returns-clause-prints
returns-clause-prints c = any_run_prints

pub returns-clause-ends : goal.returns-clause-ends
returns-clause-ends c = any_run_ends

pub returns-clause-spent : goal.returns-clause-spent
returns-clause-spent c = any_run_runs_out
