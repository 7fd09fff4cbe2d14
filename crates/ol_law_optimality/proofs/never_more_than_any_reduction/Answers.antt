-- No reduction is shorter.
use Rattle.ol_law_optimality.proofs.never_more_than_any_reduction.Goals as goal
use Rattle.ol_law_optimality.proofs.FirstHeadsPrinted.{never_more_than_any_reduction}

pub returns : goal.returns
returns c = never_more_than_any_reduction
