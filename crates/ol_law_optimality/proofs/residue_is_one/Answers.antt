use Rattle.ol_law_optimality.proofs.residue_is_one.Goals as goal
use Rattle.ol_law_optimality.proofs.Runs.{residue_is_one, source_is_one, pair_has_none}

pub returns-clause-one : goal.returns-clause-one
returns-clause-one g c = residue_is_one

pub returns-clause-none : goal.returns-clause-none
returns-clause-none g c = pair_has_none

pub returns-clause-source : goal.returns-clause-source
returns-clause-source g c = source_is_one
