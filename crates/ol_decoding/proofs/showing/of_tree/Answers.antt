use Rattle.std.proofs.Common.{◌++◌, sym, ap, ◌∙◌, subst}
use Rattle.ol_term.specs.Trees.{tree_of}
use Rattle.ol_beta.specs.TreeTerms.{IsTreeFault}
use Rattle.ol_decoding.specs.Shown.{TellsTree, holes}
use Rattle.ol_decoding.proofs.Answering.{tells}
use Rattle.ol_decoding.proofs.showing.of_tree.Goals as goal

pub returns-in_ok-put-in-Ok-2 : goal.returns-in_ok-put-in-Ok-2
returns-in_ok-put-in-Ok-2 c =
    let said = c.in_ok-said-in-Ok.said.text.items in
    let e = c.in_ok-put-in-Ok-2.ensures ∙ ap (λ x. c.put.new.text.items ++ x) c.deref.ensures.value
    ∙ ap (λ x. x ++ said) c.in_ok-put-in-Ok.ensures in
    subst (TellsTree c.args.names.now c.args.tree.now c.put-in-Ok.new.text.items) (sym c.end_of-end.ensures)
    (tells c.args.names.now c.args.tree.now (tree_of c.in-Ok.term) c.in_ok-text.text.items said
    c.put-in-Ok.new.text.items c.in_ok-said-in-Ok.said.fits c.in_ok-text.ensures.text c.in-Ok.ensures.term
    c.in_ok-said-in-Ok.ensures.text c.in_ok-said-in-Ok.ensures.fits e)

pub returns-in_ok-put-in-NotWhole : goal.returns-in_ok-put-in-NotWhole
returns-in_ok-put-in-NotWhole c =
    holes c.in-NotWhole.place c.in_ok-text.ensures.text
    (subst (IsTreeFault c.args.tree.now) c.in-NotWhole.is c.in-Err.ensures.refusal) c.in_ok-put-in-NotWhole.ensures

pub of_deep-requires : goal.of_deep-requires
of_deep-requires c = record {
  printed = c.in_ok-text.ensures.text;
  deep = subst (IsTreeFault c.args.tree.now) c.in-Deep.is c.in-Err.ensures.refusal;
}
