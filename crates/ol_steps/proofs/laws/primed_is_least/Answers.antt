use Rattle.ol_steps.proofs.Primes.{primed_is_least}
use Rattle.ol_steps.proofs.laws.primed_is_least.Goals as goal

pub returns : goal.returns
returns c = primed_is_least
