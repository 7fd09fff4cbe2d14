use Rattle.ol_diamond.proofs.laws.names_stay_apart.Goals as goal
use Rattle.ol_diamond.proofs.Births.{start_is_birth_net, fresh_of}
use Rattle.ol_diamond.proofs.Confluence.{step_keeps, run_keeps}

pub returns-clause-start : goal.returns-clause-start
returns-clause-start c = start_is_birth_net

pub returns-clause-step : goal.returns-clause-step
returns-clause-step c = step_keeps

pub returns-clause-run : goal.returns-clause-run
returns-clause-run c = run_keeps

pub returns-clause-fresh : goal.returns-clause-fresh
returns-clause-fresh c = λ N f g k l i j birth_net h h'. fresh_of N birth_net f g k l i j h h'
