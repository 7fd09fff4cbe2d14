use Rattle.std.proofs.Common.{[], ◌∷◌}
use Rattle.ol_parse.proofs.Deep.{can_deepen, deeper}
use Rattle.ol_parse.proofs.depths.depth_of.Goals as goal

pub deepen-requires-clause-can : goal.deepen-requires-clause-can
deepen-requires-clause-can c = can_deepen c.args.ops.now c.loop-op.op-index c.loop-op.done
    c.loop-op.stack.items _ (c.requires.some.0 ∷ []) c.loop-op.invariant c.loop-op-test.true c.requires.some.1

pub loop-op-preserved : goal.loop-op-preserved
loop-op-preserved c = deeper c.args.ops.now c.loop-op.op-index c.loop-op.done c.loop-op.stack.items
    c.deepen.new.stack.items _ (c.requires.some.0 ∷ []) c.loop-op.invariant c.loop-op-test.true
    c.requires.some.1 c.in_ok-deepen.ensures.bounded c.in_ok-deepen.ensures.deep
