use Rattle.ol_diamond.proofs.laws.pairs_commute.Goals as goal
use Rattle.ol_diamond.proofs.Confluence as laws

pub returns : goal.returns
returns c = laws.pairs_commute
