use Rattle.std.proofs.Common.{◌≡◌, length, slice_get, Some, arith, ap, sym, subst, ◌∙◌}
use Rattle.std.proofs.lemmas.Result.{err_from_is_err_and}
use Rattle.ol_translate.specs.Growth.{IsIndex}
use Rattle.ol_translate.proofs.Placing.{index_push}
use Rattle.ol_translate.proofs.parts.Parts.fan.Goals as goal

pub returns-in_err-note-in-None-clause-adds : goal.returns-in_err-note-in-None-clause-adds
returns-in_err-note-in-None-clause-adds c =
    let p = err_from_is_err_and c.from_residual.result c.from_residual.ensures.1 in rw p.1 tt

pub returns-in_err-note-in-None-clause-index : goal.returns-in_err-note-in-None-clause-index
returns-in_err-note-in-None-clause-index c =
    let p = err_from_is_err_and c.from_residual.result c.from_residual.ensures.1 in rw p.1 tt

pub returns-in_err-push-in-None-clause-adds : goal.returns-in_err-push-in-None-clause-adds
returns-in_err-push-in-None-clause-adds c =
    let p = err_from_is_err_and c.from_residual-in_err-push-in-None.result c.from_residual-in_err-push-in-None.ensures.1 in rw p.1 tt

pub returns-in_err-push-in-None-clause-index : goal.returns-in_err-push-in-None-clause-index
returns-in_err-push-in-None-clause-index c =
    let p = err_from_is_err_and c.from_residual-in_err-push-in-None.result c.from_residual-in_err-push-in-None.ensures.1 in rw p.1 tt

pub returns-in_err-number-in-Some-clause-adds : goal.returns-in_err-number-in-Some-clause-adds
returns-in_err-number-in-Some-clause-adds c =
    let p = err_from_is_err_and c.from_residual-in_err-number-in-Some.result c.from_residual-in_err-number-in-Some.ensures.1 in rw p.1 tt

pub returns-in_err-number-in-Some-clause-index : goal.returns-in_err-number-in-Some-clause-index
returns-in_err-number-in-Some-clause-index c =
    let p = err_from_is_err_and c.from_residual-in_err-number-in-Some.result c.from_residual-in_err-number-in-Some.ensures.1 in rw p.1 tt

pub returns-in_err-join-in-Some-clause-adds : goal.returns-in_err-join-in-Some-clause-adds
returns-in_err-join-in-Some-clause-adds c =
    let p = err_from_is_err_and c.from_residual-in_err-join-in-Some.result c.from_residual-in_err-join-in-Some.ensures.1 in rw p.1 tt

pub returns-in_err-join-in-Some-clause-index : goal.returns-in_err-join-in-Some-clause-index
returns-in_err-join-in-Some-clause-index c =
    let p = err_from_is_err_and c.from_residual-in_err-join-in-Some.result c.from_residual-in_err-join-in-Some.ensures.1 in rw p.1 tt

pub returns-in_err-join-in-Some-2-clause-adds : goal.returns-in_err-join-in-Some-2-clause-adds
returns-in_err-join-in-Some-2-clause-adds c =
    let p = err_from_is_err_and c.from_residual-in_err-join-in-Some-2.result c.from_residual-in_err-join-in-Some-2.ensures.1 in rw p.1 tt

pub returns-in_err-join-in-Some-2-clause-index : goal.returns-in_err-join-in-Some-2-clause-index
returns-in_err-join-in-Some-2-clause-index c =
    let p = err_from_is_err_and c.from_residual-in_err-join-in-Some-2.result c.from_residual-in_err-join-in-Some-2.ensures.1 in rw p.1 tt

pub returns-in_ok-push-in-None-clause-too_many : goal.returns-in_ok-push-in-None-clause-too_many
returns-in_ok-push-in-None-clause-too_many c = tt

pub returns-in_ok-join-in-Some-2-clause-too_many : goal.returns-in_ok-join-in-Some-2-clause-too_many
returns-in_ok-join-in-Some-2-clause-too_many c = tt

pub returns-in_err-number-in-Some-clause-too_many : goal.returns-in_err-number-in-Some-clause-too_many
returns-in_err-number-in-Some-clause-too_many c =
    let placed = c.in-Some.ensures in
    let p = err_from_is_err_and c.from_residual-in_err-number-in-Some.result
    c.from_residual-in_err-number-in-Some.ensures.1 in
    rw (p.1, p.2) (λ is. let full = c.in_err-number-in-Some.ensures.too_many is in
    rw (placed.port c.args.wire) (omega arith))

pub returns-in_ok-push-in-None-clause-index : goal.returns-in_ok-push-in-None-clause-index
returns-in_ok-push-in-None-clause-index c =
    let noted : slice_get c.note.new.self.places.items c.args.wire.0 ≡ Some (length c.args.wires.now.items) =
    c.in_ok-note-in-None.ensures.noted ∙ ap Some (c.len.ensures ∙ c.args.wires.now.ok.0) in
    subst (λ l. IsIndex c.note.new.self.places.items l) (sym c.in_ok-push-in-None.ensures.items)
    (index_push c.args.self.now.index.places.items c.note.new.self.places.items
    c.args.wires.now.items c.args.wire c.requires.index c.in-None.ensures noted c.in_ok-note-in-None.ensures.kept)
