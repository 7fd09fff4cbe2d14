use Rattle.ol_law_optimality.proofs.virtual_redexes_are_kept.Goals as goal
use Rattle.ol_law_optimality.proofs.Virtual.{redex_has_source, redex_has_residue}

pub returns-clause-source : goal.returns-clause-source
returns-clause-source g c = redex_has_source

pub returns-clause-residue : goal.returns-clause-residue
returns-clause-residue g c = redex_has_residue
