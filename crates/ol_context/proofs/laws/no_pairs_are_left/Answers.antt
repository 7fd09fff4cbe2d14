use Rattle.ol_context.proofs.Facing.{no_pairs_are_left}
use Rattle.ol_context.proofs.laws.no_pairs_are_left.Goals as goal

pub returns : goal.returns
returns g c = no_pairs_are_left
