use Rattle.ol_invariance.proofs.WrongTables as wrong
use Rattle.ol_invariance.proofs.laws.indexes_agree.Goals as goal

pub returns : goal.returns
returns c = wrong.indexes_agree
