use Rattle.ol_readback.proofs.One.{exit_is_one, head_is_one, head_within_is_one, tree_is_one}
use Rattle.ol_readback.proofs.laws.answers_are_one.Goals as goal

pub returns-clause-exit : goal.returns-clause-exit
returns-clause-exit g c = exit_is_one

pub returns-clause-head : goal.returns-clause-head
returns-clause-head g c = head_is_one

pub returns-clause-within : goal.returns-clause-within
returns-clause-within g c = head_within_is_one

pub returns-clause-tree : goal.returns-clause-tree
returns-clause-tree g c = tree_is_one
