-- A route has one word at most.
use Rattle.ol_law_optimality.proofs.word_is_one.Goals as goal
use Rattle.ol_law_optimality.proofs.Balance.{word_is_one}

pub returns : goal.returns
returns g c = word_is_one
