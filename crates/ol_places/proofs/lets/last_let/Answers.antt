use Rattle.std.proofs.Common.{refl, arith}
use Rattle.ol_places.proofs.Innermost.{left_begin, left_more, left_end, popped}
use Rattle.ol_places.proofs.lets.last_let.Goals as goal

pub loop-token-init : goal.loop-token-init
loop-token-init c = (left_begin c.args.front.now c.new-lets.result.items c.new-lets.ensures.items, omega arith)

pub loop-token-preserved : goal.loop-token-preserved
loop-token-preserved c = (
  left_more c.args.front.now c.loop-token.lets.items c.take.new.lets.items c.loop-token.rest.now
      c.split_at.result.1.now c.in-Some.token _ c.loop-token.invariant.0 c.in-Some.ensures.first c.loop-token.invariant.1
      c.in-Some.ensures.within refl c.in_ok-take.ensures c.split_at.ensures.back (omega arith),
  omega arith,
)

pub returns : goal.returns
returns c =
    left_end c.args.front.now c.loop-token.lets.items c.loop-token.rest.now c.pop.result c.loop-token.invariant.0
    c.in_default.ensures.first
    (popped c.loop-token.lets.items c.pop.new.self.items c.pop.result c.loop-token.lets.len c.pop.ensures.items
    c.pop.ensures.variant c.loop-token.lets.ok.0)
