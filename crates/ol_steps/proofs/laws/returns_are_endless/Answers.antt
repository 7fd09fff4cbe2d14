use Rattle.ol_steps.proofs.Returns.{endless, return_has_none}
use Rattle.ol_steps.proofs.laws.returns_are_endless.Goals as goal

pub returns-clause-endless : goal.returns-clause-endless
returns-clause-endless c = endless

pub returns-clause-none : goal.returns-clause-none
returns-clause-none c = return_has_none
