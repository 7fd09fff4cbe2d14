use Rattle.ol_strategies.proofs.Nexts.{head_leftmost, weak_head}
use Rattle.ol_strategies.proofs.laws.orders_within_others.Goals as goal

pub returns-clause-head : goal.returns-clause-head
returns-clause-head c = head_leftmost

pub returns-clause-weak : goal.returns-clause-weak
returns-clause-weak c = weak_head
