use Rattle.ol_decoding.proofs.Answering.{deep_told}
use Rattle.ol_decoding.proofs.showing.told_of_deep.Goals as goal

pub returns : goal.returns
returns c = deep_told c.args.tree.now c.args.depth c.numeral-number.result c.in_ok-text.text.items c.is_some-fits.result
    c.numeral-number.ensures c.in_ok-text.ensures c.is_some-fits.ensures
