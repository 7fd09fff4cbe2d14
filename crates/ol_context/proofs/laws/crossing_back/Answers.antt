use Rattle.ol_context.proofs.Ways.{crosses_back, through_back}
use Rattle.ol_context.proofs.laws.crossing_back.Goals as goal

pub returns-clause-node : goal.returns-clause-node
returns-clause-node g c = crosses_back

pub returns-clause-net : goal.returns-clause-net
returns-clause-net g c = λ n p q a b t. through_back n p q a b t
