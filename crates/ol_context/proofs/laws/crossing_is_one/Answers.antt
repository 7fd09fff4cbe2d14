use Rattle.ol_context.proofs.Ways.{crosses_one}
use Rattle.ol_context.proofs.laws.crossing_is_one.Goals as goal

pub returns : goal.returns
returns c = crosses_one
