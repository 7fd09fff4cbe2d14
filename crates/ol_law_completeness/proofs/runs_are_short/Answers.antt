use Rattle.ol_law_completeness.proofs.Running as running
use Rattle.ol_law_completeness.proofs.runs_are_short.Goals as goal

pub returns : goal.returns
returns c = running.runs_are_short
