use Rattle.ol_invariance.proofs.Steps.{step_keeps, graph_step_keeps}
use Rattle.ol_invariance.proofs.laws.step_keeps_paths.Goals as goal

pub returns-clause-named : goal.returns-clause-named
returns-clause-named t c = λ same test born N M f g r n fresh s. step_keeps same test born N M f g r n fresh s

pub returns-clause-numbered : goal.returns-clause-numbered
returns-clause-numbered t c = graph_step_keeps
