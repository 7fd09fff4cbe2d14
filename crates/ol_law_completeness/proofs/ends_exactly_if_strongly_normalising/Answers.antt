use Rattle.ol_law_completeness.proofs.OnlyStrong as ending
use Rattle.ol_law_completeness.proofs.ends_exactly_if_strongly_normalising.Goals as goal

pub returns-clause-one : goal.returns-clause-one
returns-clause-one c = ending.one_thread_ends

pub returns-clause-every : goal.returns-clause-every
returns-clause-every c = ending.every_run_ends
