use Rattle.ol_counts.proofs.OneCount.{count_is_one}
use Rattle.ol_counts.proofs.laws.count_is_one.Goals as goal

pub returns : goal.returns
returns c = record { one = count_is_one }
