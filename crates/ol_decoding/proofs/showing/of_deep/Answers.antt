use Rattle.std.proofs.Common.{◌++◌, sym, ap, ◌∙◌, subst}
use Rattle.ol_decoding.specs.Shown.{TellsTree}
use Rattle.ol_decoding.proofs.Answering.{tells_deep}
use Rattle.ol_decoding.proofs.showing.of_deep.Goals as goal

pub returns : goal.returns
returns c =
    let said = c.in_ok-said.said.text.items in
    let e = c.in_ok-put-2.ensures ∙ ap (λ x. c.put.new.text.items ++ x) c.deref.ensures.value
    ∙ ap (λ x. x ++ said) c.in_ok-put.ensures in
    subst (TellsTree c.args.names.now c.args.tree.now _) (sym c.end_of-end.ensures)
    (tells_deep c.args.names.now c.args.tree.now c.args.depth c.args.printed.items said _ c.in_ok-said.said.fits
    c.requires.printed c.requires.deep c.in_ok-said.ensures e)
