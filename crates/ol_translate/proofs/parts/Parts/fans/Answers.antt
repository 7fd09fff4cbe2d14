use Rattle.std.proofs.Common.{length, arith}
use Rattle.std.proofs.lemmas.Result.{err_from_is_err_and}
use Rattle.ol_net.specs.declared.parts.Port.TheVariants.{Free}
use Rattle.ol_translate.proofs.Walks.{fan_left}
use Rattle.ol_translate.proofs.parts.Parts.fans.Goals as goal

pub returns-in_err-fill-clause-adds : goal.returns-in_err-fill-clause-adds
returns-in_err-fill-clause-adds c =
    let p = err_from_is_err_and c.from_residual.result c.from_residual.ensures.1 in rw p.1 tt

pub returns-in_err-fan-clause-adds : goal.returns-in_err-fan-clause-adds
returns-in_err-fan-clause-adds c =
    let p = err_from_is_err_and c.from_residual-in_err-fan.result c.from_residual-in_err-fan.ensures.1 in rw p.1 tt

pub returns-clause-too_many : goal.returns-clause-too_many
returns-clause-too_many c = tt

pub returns-in_err-fan-clause-too_many : goal.returns-in_err-fan-clause-too_many
returns-in_err-fan-clause-too_many c =
    let left = fan_left c.loop-wire.self.nodes.items c.args.self.now.nodes.items c.args.level
    c.loop-wire.wire-index (length c.args.self.now.nodes.items) c.loop-wire.wires.items
    c.args.wires.now.items c.deref-wire-items.result.now
    (0, Free 0) c.loop-wire-test.true c.loop-wire.invariant.nodes in
    let p = err_from_is_err_and c.from_residual-in_err-fan.result c.from_residual-in_err-fan.ensures.1 in
    rw (p.1, p.2) (λ is. let full = c.in_err-fan.ensures.too_many is in
    rw (← c.deref-wire-items.ensures.value) (omega arith))
