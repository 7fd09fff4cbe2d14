use Rattle.ol_law_optimality.proofs.labels_erase.Goals as goal
use Rattle.ol_law_optimality.proofs.Erasing as erasing

pub returns : goal.returns
returns c = erasing.labels_erase
