use Rattle.ol_diamond.proofs.laws.pair_to_front.Goals as goal
use Rattle.ol_diamond.proofs.Confluence as laws

pub returns : goal.returns
returns c = laws.pair_to_front
