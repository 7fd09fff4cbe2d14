use Rattle.ol_parse.proofs.Sizes.{few_leaves}
use Rattle.ol_parse.proofs.laws.few_leaves.Goals as goal

pub returns : goal.returns
returns c = few_leaves
