use Rattle.ol_decoding.proofs.Linked.{numeral_is}
use Rattle.ol_decoding.proofs.numerals.numeral.Goals as goal

pub returns : goal.returns
returns c = numeral_is c.args.tree.now c.links.result c.is_whole.ensures.whole c.links.ensures
