use Rattle.ol_steps.proofs.Marked.{redex_is_marked}
use Rattle.ol_steps.proofs.laws.redexes_are_marked.Goals as goal

pub returns : goal.returns
returns c = redex_is_marked
