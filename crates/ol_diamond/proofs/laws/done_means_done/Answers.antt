use Rattle.ol_diamond.proofs.laws.done_means_done.Goals as goal
use Rattle.ol_diamond.proofs.Confluence as laws

pub returns : goal.returns
returns c = laws.done_means_done
