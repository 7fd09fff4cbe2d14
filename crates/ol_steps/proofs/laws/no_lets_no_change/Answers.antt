use Rattle.ol_steps.proofs.ValuesPutIn.{no_value_no_change, nothing_is_pruned}
use Rattle.ol_steps.proofs.laws.no_lets_no_change.Goals as goal

pub returns-clause-term : goal.returns-clause-term
returns-clause-term c = no_value_no_change

pub returns-clause-binders : goal.returns-clause-binders
returns-clause-binders c = nothing_is_pruned
