use Rattle.std.proofs.Common.{refl, ◌∙◌}
use Rattle.ol_wire.proofs.LinkSteps.All.{linking_begins, open_next, linking_goes_on}
use Rattle.ol_wire.specs.References.{place_in}
use Rattle.ol_wire.proofs.shared.Shared.link.Goals as goal

pub loop-wire-init : goal.loop-wire-init
loop-wire-init c = (
  refl,
  refl,
  linking_begins c.args.self.now.plan.parts c.args.token.now.me.0
      c.args.cell c.args.one c.args.two c.requires.next c.requires.ends.0 c.requires.ends.1,
)

pub exchange-requires-clause-next : goal.exchange-requires-clause-next
exchange-requires-clause-next c =
    open_next c.args.self.now.plan.parts c.args.token.now.me.0 c.args.cell c.loop-wire.a
    c.loop-wire.b c.loop-wire.token.me.0 c.loop-wire.invariant.2 c.in-Some.wire c.in-Some.other
    c.in-Some.ensures.0 c.in-Some.ensures.1

pub loop-wire-preserved : goal.loop-wire-preserved
loop-wire-preserved c = (
  c.in-Some-exchange.ensures.token.0 ∙ c.loop-wire.invariant.0,
  c.in-Some-exchange.ensures.token.1 ∙ c.loop-wire.invariant.1,
  linking_goes_on c.args.self.now.plan.parts c.args.token.now.me.0 c.args.cell c.loop-wire.a
      c.loop-wire.b c.loop-wire.token.me.0 c.loop-wire.invariant.2 c.exchange.new.token.me.0
      (place_in c.in-Some.wire) c.in-Some.other c.in-Some-exchange.found
      c.in-Some-exchange.ensures.view c.in-Some-exchange.ensures.ends.0 c.in-Some-exchange.ensures.ends.1,
)
