use Rattle.ol_diamond.proofs.laws.no_run_is_longer.Goals as goal
use Rattle.ol_diamond.proofs.Confluence as laws

pub returns-clause-among : goal.returns-clause-among
returns-clause-among c = laws.each_pair_is_among

pub returns-clause-pairs : goal.returns-clause-pairs
returns-clause-pairs c = laws.no_run_has_more

pub returns-clause-length : goal.returns-clause-length
returns-clause-length c = laws.no_run_is_longer
