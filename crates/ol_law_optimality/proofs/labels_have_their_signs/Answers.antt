-- A label is told by its signs.
use Rattle.ol_law_optimality.proofs.labels_have_their_signs.Goals as goal
use Rattle.ol_law_optimality.proofs.Spelling.{alike_is_one}

pub returns : goal.returns
returns c = alike_is_one
