use Rattle.std.proofs.Common.{refl, arith}
use Rattle.ol_orders.specs.Same.{from, whole}
use Rattle.ol_orders.proofs.Heads.{nowhere}
use Rattle.ol_orders.proofs.reading.net_at.Goals as goal

pub returns-then-has_head-clause-part : goal.returns-then-has_head-clause-part
returns-then-has_head-clause-part c = from (c.if-has_head.ensures.yes refl) c.loop-at.invariant

pub returns-clause-part : goal.returns-clause-part
returns-clause-part c =
    let t = c.loop-at-test.false in
    whole (nowhere c.args.bytes.now c.loop-at.at (omega arith) c.loop-at.invariant)
