use Rattle.ol_derivations.proofs.Right as proof
use Rattle.ol_derivations.proofs.laws.yes_is_right.Goals as goal

pub returns : goal.returns
returns c = proof.yes_is_right
