use Rattle.ol_readback.proofs.Forests.{tree_is_whole}
use Rattle.ol_readback.proofs.laws.trees_are_whole.Goals as goal

pub returns : goal.returns
returns g c = tree_is_whole
