-- Demand order makes as many beta steps for a normal form as there are families.
use Rattle.ol_law_optimality.proofs.betas_are_families.Goals as goal
use Rattle.ol_law_optimality.proofs.AllFamilies.{betas_are_families}

pub returns : goal.returns
returns c = betas_are_families
