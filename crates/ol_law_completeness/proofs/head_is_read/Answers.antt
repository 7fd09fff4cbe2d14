use Rattle.ol_law_completeness.proofs.head_is_read.Goals as goal
use Rattle.ol_law_completeness.proofs.Completing.{head_is_read}

pub returns : goal.returns
returns c = head_is_read
