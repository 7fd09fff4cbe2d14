use Rattle.ol_diamond.proofs.laws.birth_names_are_one.Goals as goal
use Rattle.ol_diamond.proofs.Journals as laws

pub returns : goal.returns
returns c = laws.birth_names_are_one
