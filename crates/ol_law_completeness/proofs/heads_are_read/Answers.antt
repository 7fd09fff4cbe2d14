use Rattle.ol_law_completeness.proofs.heads_are_read.Goals as goal
use Rattle.ol_law_completeness.proofs.Ending.{heads_are_read}

pub returns : goal.returns
returns c = heads_are_read
