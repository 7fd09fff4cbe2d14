-- What is seen from a term's root is at most as much as its head steps.
use Rattle.ol_law_optimality.proofs.seen_are_few.Goals as goal
use Rattle.ol_law_optimality.proofs.Few.{seen_is_few}

pub returns : goal.returns
returns g = seen_is_few
