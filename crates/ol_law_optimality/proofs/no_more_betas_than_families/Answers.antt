-- Demand order makes no more beta steps than there are families.
use Rattle.ol_law_optimality.proofs.no_more_betas_than_families.Goals as goal
use Rattle.ol_law_optimality.proofs.Betas.{no_more_betas_than_families, betas_are_no_more_than_families}

pub returns-clause-head : goal.returns-clause-head
returns-clause-head c = no_more_betas_than_families

pub returns-clause-leftmost : goal.returns-clause-leftmost
returns-clause-leftmost c = betas_are_no_more_than_families
