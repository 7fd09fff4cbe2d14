use Rattle.ol_steps.proofs.NamesWithPrimes.{reads_again}
use Rattle.ol_steps.proofs.laws.names_are_read_again.Goals as goal

pub returns : goal.returns
returns c = reads_again
