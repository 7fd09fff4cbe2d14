use Rattle.std.proofs.Common.{◌≡◌, length, sym, ◌∙◌, subst}
use Rattle.ol_readback.specs.Printing.{IsSeen}
use Rattle.ol_readback.specs.Texts.{IsNamedNode}
use Rattle.ol_readback.specs.declared.answers.ReadNode.{ReadNode}
use Rattle.ol_equal.proofs.Agreeing.{named-at}
use Rattle.ol_decoding.proofs.Placed.{get_place}
use Rattle.ol_decoding.proofs.HeadLines.{seen_at, nothing_put, head_put}
use Rattle.ol_decoding.proofs.frame_walks.put_head.Goals as goal

pub put_variable-requires-clause-named : goal.put_variable-requires-clause-named
put_variable-requires-clause-named c =
    subst (λ (n : ReadNode). IsNamedNode (length c.args.names.now) n)
    (get_place c.args.tree.now c.args.place c.in-Some.node (sym c.get.ensures.place ∙ c.in-Some.is) ∙ c.in-Head.is)
    (named-at (length c.args.names.now) c.args.tree.now c.args.place c.requires.named c.requires.there)

pub put_variable-requires-clause-seen : goal.put_variable-requires-clause-seen
put_variable-requires-clause-seen c =
    subst (λ (n : ReadNode). IsSeen (length c.args.tree.now) n) c.in-Head.is
    (seen_at c.args.tree.now c.args.place c.in-Some.node c.is_whole.ensures.whole
    (sym c.get.ensures.place ∙ c.in-Some.is))

pub returns-in_ok-put-in-NoHead : goal.returns-in_ok-put-in-NoHead
returns-in_ok-put-in-NoHead c = nothing_put.0 c.args.names.now c.args.tree.now c.args.place c.args.text.now.items
    c.put.new.text.items
    (get_place c.args.tree.now c.args.place c.in-Some.node (sym c.get.ensures.place ∙ c.in-Some.is) ∙ c.in-NoHead.is)
    c.in_ok-put-in-NoHead.ensures

pub returns-in_ok-put-in-Cut : goal.returns-in_ok-put-in-Cut
returns-in_ok-put-in-Cut c = nothing_put.1 c.args.names.now c.args.tree.now c.args.place c.args.text.now.items
    c.put-in-Cut.new.text.items
    (get_place c.args.tree.now c.args.place c.in-Some.node (sym c.get.ensures.place ∙ c.in-Some.is) ∙ c.in-Cut.is)
    c.in_ok-put-in-Cut.ensures

pub returns-in_ok-put-in-Head-4 : goal.returns-in_ok-put-in-Head-4
returns-in_ok-put-in-Head-4 c = head_put c.args.names.now c.args.tree.now c.args.place c.in-Head.lams c.in-Head.args
    c.in-Head.var c.args.text.now.items c.put-in-Head.new.text.items c.put_number.new.text.items
    c.put-in-Head-2.new.text.items c.put_variable.new.text.items c.put-in-Head-3.new.text.items
    c.put_number-in-Head.new.text.items c.put-in-Head-4.new.text.items
    (get_place c.args.tree.now c.args.place c.in-Some.node (sym c.get.ensures.place ∙ c.in-Some.is) ∙ c.in-Head.is)
    c.in_ok-put-in-Head.ensures c.in_ok-put_number-in-Head.ensures c.in_ok-put-in-Head-2.ensures
    c.in_ok-put_variable-in-Head.ensures c.in_ok-put-in-Head-3.ensures c.in_ok-put_number-in-Head-2.ensures
    c.in_ok-put-in-Head-4.ensures
