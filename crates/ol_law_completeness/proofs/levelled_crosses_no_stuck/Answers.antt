use Rattle.ol_law_completeness.proofs.levelled_crosses_no_stuck.Goals as goal
use Rattle.ol_law_completeness.proofs.Levelled.{levelled_crosses}

pub returns : goal.returns
returns g c = levelled_crosses
