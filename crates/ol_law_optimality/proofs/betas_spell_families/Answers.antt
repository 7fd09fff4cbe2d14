-- The beta steps of demand order are families, one by one.
use Rattle.ol_law_optimality.proofs.betas_spell_families.Goals as goal
use Rattle.ol_law_optimality.proofs.Entries.{betas_spell_families}

pub returns : goal.returns
returns c = betas_spell_families
