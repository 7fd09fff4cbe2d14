use Rattle.std.proofs.Common.{◌∙◌, sym, arith}
use Rattle.ol_decoding.specs.Chains.{numeral_from}
use Rattle.ol_decoding.proofs.Linked.{one_link, no_link, all_links}
use Rattle.ol_decoding.proofs.numerals.links.Goals as goal

pub loop-place-preserved : goal.loop-place-preserved
loop-place-preserved c = one_link c.args.tree.now c.loop-place.place c.loop-place.under c.in-Some.node
    (numeral_from 0 2 c.args.tree.now) (sym c.in-Some.ensures.place) (sym c.is_place.ensures ∙ c.if-not-is_place.false)
    c.loop-place.invariant

pub returns-then-not-is_place : goal.returns-then-not-is_place
returns-then-not-is_place c = c.end_at.ensures ∙ no_link c.args.tree.now c.loop-place.place c.loop-place.under c.in-Some.node
    (numeral_from 0 2 c.args.tree.now) (sym c.in-Some.ensures.place) (sym c.is_place.ensures ∙ c.if-not-is_place.true)
    c.loop-place.invariant

pub returns : goal.returns
returns c = all_links c.args.tree.now c.loop-place.place c.loop-place.under (numeral_from 0 2 c.args.tree.now) (omega arith)
    c.loop-place.invariant
