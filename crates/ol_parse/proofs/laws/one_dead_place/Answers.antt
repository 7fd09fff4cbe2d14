use Rattle.ol_parse.proofs.Sizes.{one_dead_place}
use Rattle.ol_parse.proofs.laws.one_dead_place.Goals as goal

pub returns : goal.returns
returns c = one_dead_place
