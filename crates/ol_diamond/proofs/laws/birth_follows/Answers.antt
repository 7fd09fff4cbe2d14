use Rattle.ol_diamond.proofs.laws.birth_follows.Goals as goal
use Rattle.ol_diamond.proofs.Journals as laws

pub returns-clause-follows : goal.returns-clause-follows
returns-clause-follows c = laws.birth_follows

pub returns-clause-complete : goal.returns-clause-complete
returns-clause-complete c = laws.complete_follows
