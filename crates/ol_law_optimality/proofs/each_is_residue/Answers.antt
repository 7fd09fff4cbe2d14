use Rattle.ol_law_optimality.proofs.each_is_residue.Goals as goal
use Rattle.ol_law_optimality.proofs.Runs.{each_is_residue}

pub returns : goal.returns
returns g c = each_is_residue
