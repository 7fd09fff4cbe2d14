use Rattle.std.proofs.Common.{arith}
use Rattle.ol_context.proofs.Passing.{part_held, fill_on}
use Rattle.ol_context.proofs.open.fill.Goals as goal

pub put_part-requires-clause-part : goal.put_part-requires-clause-part
put_part-requires-clause-part c =
    part_held c.args.values.now c.loop-k.values c.args.around.now.items c.args.v c.loop-k.whole
    c.loop-k.k c.loop-k.invariant c.index.result.now
    (omega (arith, c.args.around.now.ok.0, c.len.ensures, c.loop-k-test.true)) c.index.ensures

pub loop-k-preserved : goal.loop-k-preserved
loop-k-preserved c =
    fill_on c.args.values.now c.loop-k.values c.args.around.now.items c.args.v c.loop-k.whole
    c.loop-k.k c.loop-k.invariant c.index.result.now
    (omega (arith, c.args.around.now.ok.0, c.len.ensures, c.loop-k-test.true)) c.index.ensures
    c.put_part.new.values c.in_ok-whole.whole c.put_part.ensures.extends c.in_ok-whole.ensures.new
