use Rattle.ol_steps.proofs.NamesWithPrimes.{folded_reads_again}
use Rattle.ol_steps.proofs.laws.folds_are_read_again.Goals as goal

pub returns : goal.returns
returns c = folded_reads_again
