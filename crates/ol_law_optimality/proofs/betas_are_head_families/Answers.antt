-- Demand order makes as many beta steps for a head as there are families.
use Rattle.ol_law_optimality.proofs.betas_are_head_families.Goals as goal
use Rattle.ol_law_optimality.proofs.HeadFamilies.{betas_are_head_families}

pub returns : goal.returns
returns c = betas_are_head_families
