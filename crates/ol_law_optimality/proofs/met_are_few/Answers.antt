-- What is met from a term's root is at most as much as its head steps.
use Rattle.ol_law_optimality.proofs.met_are_few.Goals as goal
use Rattle.ol_law_optimality.proofs.Counting.{met_few}

pub returns : goal.returns
returns g = λ τ t u m s q a j k ps d f. met_few τ s q a j k ps d f
