use Rattle.ol_law_levels.proofs.EndlessWalk.{ring_is_cut}
use Rattle.ol_law_levels.proofs.cut_example.Goals as goal

pub returns : goal.returns
returns c = ring_is_cut
