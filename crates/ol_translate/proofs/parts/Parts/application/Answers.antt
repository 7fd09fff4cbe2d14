use Rattle.std.proofs.lemmas.Result.{err_from_is_err_and}
use Rattle.ol_translate.proofs.parts.Parts.application.Goals as goal

pub returns-in_err-join-clause-adds : goal.returns-in_err-join-clause-adds
returns-in_err-join-clause-adds c =
    let p = err_from_is_err_and c.from_residual.result c.from_residual.ensures.1 in rw p.1 tt

pub returns-in_err-join-2-clause-adds : goal.returns-in_err-join-2-clause-adds
returns-in_err-join-2-clause-adds c =
    let p = err_from_is_err_and c.from_residual-in_err-join-2.result c.from_residual-in_err-join-2.ensures.1 in rw p.1 tt

pub returns-in_err-bracketed-clause-adds : goal.returns-in_err-bracketed-clause-adds
returns-in_err-bracketed-clause-adds c =
    let p = err_from_is_err_and c.from_residual-in_err-bracketed.result c.from_residual-in_err-bracketed.ensures.1 in rw p.1 tt

pub returns-in_err-fans-clause-adds : goal.returns-in_err-fans-clause-adds
returns-in_err-fans-clause-adds c =
    let p = err_from_is_err_and c.from_residual-in_err-fans.result c.from_residual-in_err-fans.ensures.1 in rw p.1 tt

pub returns-clause-too_many : goal.returns-clause-too_many
returns-clause-too_many c = tt
