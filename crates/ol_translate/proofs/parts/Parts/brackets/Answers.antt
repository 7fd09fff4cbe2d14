use Rattle.std.proofs.Common.{arith}
use Rattle.std.proofs.lemmas.Result.{err_from_is_err_and}
use Rattle.ol_translate.proofs.Walks.{brackets_left}
use Rattle.ol_translate.proofs.parts.Parts.brackets.Goals as goal

pub returns-in_err-number-clause-adds : goal.returns-in_err-number-clause-adds
returns-in_err-number-clause-adds c =
    let p = err_from_is_err_and c.from_residual.result c.from_residual.ensures.1 in rw p.1 tt

pub returns-in_err-join-clause-adds : goal.returns-in_err-join-clause-adds
returns-in_err-join-clause-adds c =
    let p = err_from_is_err_and c.from_residual-in_err-join.result c.from_residual-in_err-join.ensures.1 in rw p.1 tt

pub returns-in_err-push-clause-adds : goal.returns-in_err-push-clause-adds
returns-in_err-push-clause-adds c =
    let p = err_from_is_err_and c.from_residual-in_err-push.result c.from_residual-in_err-push.ensures.1 in rw p.1 tt

pub returns-clause-too_many : goal.returns-clause-too_many
returns-clause-too_many c = tt

pub returns-in_err-number-clause-too_many : goal.returns-in_err-number-clause-too_many
returns-in_err-number-clause-too_many c =
    let left = brackets_left c.loop-wire.self.nodes.items c.args.self.now.nodes.items c.args.level
    c.loop-wire.wire-index c.deref-wire-items.result.now c.loop-wire-test.true c.loop-wire.invariant.nodes in
    let p = err_from_is_err_and c.from_residual.result c.from_residual.ensures.1 in
    rw (p.1, p.2) (λ is. let full = c.in_err-number.ensures.too_many is in
    rw (← c.deref-wire-items.ensures.value) (omega arith))
