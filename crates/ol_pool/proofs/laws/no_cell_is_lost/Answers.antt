use Rattle.ol_pool.proofs.NoneLost.{none_lost}
use Rattle.ol_pool.proofs.laws.no_cell_is_lost.Goals as goal

pub returns : goal.returns
returns c = none_lost
