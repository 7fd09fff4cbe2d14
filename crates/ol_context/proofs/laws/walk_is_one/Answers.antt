use Rattle.ol_context.proofs.Ways.{walks_back}
use Rattle.ol_context.proofs.Exits.{one_walk}
use Rattle.ol_context.proofs.laws.walk_is_one.Goals as goal

pub returns-clause-one : goal.returns-clause-one
returns-clause-one g c = λ n is_net p a q q' d d' r s. one_walk n is_net p a q q' d d' r s

pub returns-clause-back : goal.returns-clause-back
returns-clause-back g c = λ n p a q d r. walks_back n p a q d r
