use Rattle.ol_counts.proofs.laws.tables_agree.Goals as goal
use Rattle.ol_counts.proofs.Agreeing as laws

pub returns : goal.returns
returns c = laws.tables_agree
