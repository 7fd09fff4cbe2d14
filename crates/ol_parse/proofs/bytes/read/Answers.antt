use Rattle.std.proofs.Common.{◌≡◌, length, Some, refl, arith}
use Rattle.ol_parse.proofs.FlatReads.{first, one_more, dies, is_whole, breaks_off}
use Rattle.ol_parse.proofs.bytes.read.Goals as goal

pub loop-at-init : goal.loop-at-init
loop-at-init c = first c.args.text.now c.new-opens.result.items c.new-out.result.items
    c.new-opens.ensures.items c.new-out.ensures.items

pub returns-in-None-clause-refused : goal.returns-in-None-clause-refused
returns-in-None-clause-refused c =
    dies c.args.text.now c.loop-at.at c.loop-at.place c.loop-at.mode c.loop-at.opens.items
    c.loop-at.out.items c.loop-at.invariant c.loop-at-test.true
    c.take_byte.new.opens.items c.take_byte.new.out.items c.in_ok-next.field-0 c.in-None.is c.in_ok-next.ensures.stands

pub loop-at-preserved : goal.loop-at-preserved
loop-at-preserved c =
    one_more c.args.text.now c.loop-at.at c.loop-at.place c.loop-at.mode c.loop-at.opens.items
    c.loop-at.out.items c.loop-at.invariant c.loop-at-test.true
    c.in-Some.next c.in-Some.then c.take_byte.new.opens.items c.take_byte.new.out.items
    c.in_ok-next.field-0 c.in-Some.is c.in_ok-next.ensures.begun c.in_ok-next.ensures.stands

pub returns-then-not-branch-clause-refused : goal.returns-then-not-branch-clause-refused
returns-then-not-branch-clause-refused c =
    let e : c.loop-at.at ≡ length c.args.text.now = omega arith in
    breaks_off c.args.text.now c.loop-at.at c.loop-at.place c.loop-at.mode c.loop-at.opens.items
    c.loop-at.out.items c.loop-at.invariant e
    c.take_text_end.new.out.items c.in_ok-take_text_end.field-0 c.if-not-branch.true c.in_ok-take_text_end.ensures

pub returns-clause-found : goal.returns-clause-found
returns-clause-found c =
    let e : c.loop-at.at ≡ length c.args.text.now = omega arith in
    is_whole c.args.text.now c.loop-at.at c.loop-at.place c.loop-at.mode c.loop-at.opens.items
    c.loop-at.out.items c.loop-at.invariant e
    c.take_text_end.new.out.items c.in_ok-take_text_end.field-0 c.if-not-branch.false c.in_ok-take_text_end.ensures

pub loop-at-preserved-then-goes_on : goal.loop-at-preserved-then-goes_on
loop-at-preserved-then-goes_on c =
    one_more c.args.text.now c.loop-at.at c.loop-at.place c.loop-at.mode c.loop-at.opens.items
    c.loop-at.out.items c.loop-at.invariant c.loop-at-test.true
    c.loop-at.place c.loop-at.mode c.loop-at.opens.items c.loop-at.out.items
    (Some (c.loop-at.place, c.loop-at.mode)) refl c.loop-at.invariant.begun
    (c.goes_on.ensures c.if-goes_on.true c.loop-at.mode c.loop-at.opens.items c.loop-at.out.items)
