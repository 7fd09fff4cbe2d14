-- A word is read crossing by crossing.
use Rattle.ol_law_optimality.proofs.words_are_signed.Goals as goal
use Rattle.ol_law_optimality.proofs.Signing.{words_are_signed}

pub returns : goal.returns
returns g c = words_are_signed
