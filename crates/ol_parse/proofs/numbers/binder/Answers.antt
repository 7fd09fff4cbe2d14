use Rattle.std.proofs.Common.{◌<◌, length, reverse, sym, ◌∙◌, true, false, arith}
use Rattle.std.proofs.lemmas.List.{length-reverse}
use Rattle.ol_parse.proofs.Places.{turn_back}
use Rattle.ol_term.specs.NameLists.{position_of}
use Rattle.ol_parse.specs.Resolving.{texts}
use Rattle.ol_parse.proofs.numbers.binder.Goals as goal

pub returns-then-is_same : goal.returns-then-is_same
returns-then-is_same c =
    let h : c.loop-i.i < length (reverse c.args.binders.now) = omega (arith, length-reverse c.args.binders.now) in
    turn_back c.args.name.now c.args.binders.now c.loop-i.i _ true
    (position_of c.args.name.now (texts (reverse c.args.binders.now))) h c.loop-i-test.true
    c.loop-i.invariant (sym c.if-is_same.true ∙ c.is_same.ensures)

pub loop-i-preserved : goal.loop-i-preserved
loop-i-preserved c =
    let h : c.loop-i.i < length (reverse c.args.binders.now) = omega (arith, length-reverse c.args.binders.now) in
    turn_back c.args.name.now c.args.binders.now c.loop-i.i _ false
    (position_of c.args.name.now (texts (reverse c.args.binders.now))) h c.loop-i-test.true
    c.loop-i.invariant (sym c.if-is_same.false ∙ c.is_same.ensures)
