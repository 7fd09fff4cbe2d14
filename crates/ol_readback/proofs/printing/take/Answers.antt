use Rattle.std.proofs.Common.{Some, None, arith}
use Rattle.ol_readback.proofs.Layers.{takes_none, takes_more, takes_close}
use Rattle.ol_readback.proofs.printing.take.Goals as goal

pub returns-in-None : goal.returns-in-None
returns-in-None c =
    let h = c.in-None.ensures.cases in
    c.loop-head.invariant None c.loop-head.text.items c.pop.new.self.items
    (takes_none c.loop-head.text.items c.loop-head.pending.items c.pop.new.self.items
    (omega (arith, h.0, c.loop-head.pending.ok.0)) (omega (arith, h.1, c.pop.new.self.ok.0)))

pub returns-then-head-gt0 : goal.returns-then-head-gt0
returns-then-head-gt0 c =
    c.loop-head.invariant (Some c.in-Some.head.binders) c.loop-head.text.items c.push.new.self.items
    (takes_more c.loop-head.text.items c.loop-head.pending.items c.pop.new.self.items
    c.push.new.self.items c.in-Some.head c.in-Some.ensures.items c.if-head-gt0.true
    c.in_ok-push-in-Some.ensures.items)

pub loop-head-preserved : goal.loop-head-preserved
loop-head-preserved c = λ r x os t.
    c.loop-head.invariant r x os (takes_close c.loop-head.text.items c.put_right.new.text.items
    c.loop-head.pending.items c.pop.new.self.items c.in-Some.head r x os c.in-Some.ensures.items
    c.if-head-gt0.false c.in_ok-put_right-in-Some.ensures t)
