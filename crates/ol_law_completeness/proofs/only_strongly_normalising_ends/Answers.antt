use Rattle.ol_law_completeness.proofs.OnlyStrong as ending
use Rattle.ol_law_completeness.proofs.only_strongly_normalising_ends.Goals as goal

pub returns : goal.returns
returns c = ending.only_strongly_normalising_ends
