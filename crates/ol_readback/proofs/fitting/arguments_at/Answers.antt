use Rattle.std.proofs.Common.{refl, arith}
use Rattle.ol_context.specs.Shapes.{value, context_of}
use Rattle.ol_readback.proofs.Fits.{last_count}
use Rattle.ol_readback.proofs.fitting.arguments_at.Goals as goal

pub returns-then-not-all_empty : goal.returns-then-not-all_empty
returns-then-not-all_empty c = λ k e h. let f = (c.if-not-all_empty.ensures).1 (λ i b. h i (omega arith)) in absurd (cc)

pub returns : goal.returns
returns c = last_count c.args.m (context_of c.args.values.now c.args.context.now)
    (value c.args.values.now c.level-counted.result) c.in_ok-count.count c.level-counted.ensures.is
    c.in_ok-count.ensures ((c.if-not-all_empty.ensures).0 refl)
