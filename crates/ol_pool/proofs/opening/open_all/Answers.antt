use Rattle.std.proofs.lemmas.Result.{err_from_is_err_and}
use Rattle.ol_pool.proofs.opening.open_all.Goals as goal

pub returns-in_err-own-clause-owns : goal.returns-in_err-own-clause-owns
returns-in_err-own-clause-owns c =
    let p = err_from_is_err_and c.from_residual.result c.from_residual.ensures.1 in rw p.1 tt

pub returns-in_err-own-clause-thieves : goal.returns-in_err-own-clause-thieves
returns-in_err-own-clause-thieves c =
    let p = err_from_is_err_and c.from_residual.result c.from_residual.ensures.1 in rw p.1 tt

pub returns-in_err-own-clause-count : goal.returns-in_err-own-clause-count
returns-in_err-own-clause-count c =
    let p = err_from_is_err_and c.from_residual.result c.from_residual.ensures.1 in rw p.1 tt

pub returns-in_err-push-clause-owns : goal.returns-in_err-push-clause-owns
returns-in_err-push-clause-owns c =
    let p = err_from_is_err_and c.from_residual-in_err-push.result c.from_residual-in_err-push.ensures.1 in rw p.1 tt

pub returns-in_err-push-clause-thieves : goal.returns-in_err-push-clause-thieves
returns-in_err-push-clause-thieves c =
    let p = err_from_is_err_and c.from_residual-in_err-push.result c.from_residual-in_err-push.ensures.1 in rw p.1 tt

pub returns-in_err-push-clause-count : goal.returns-in_err-push-clause-count
returns-in_err-push-clause-count c =
    let p = err_from_is_err_and c.from_residual-in_err-push.result c.from_residual-in_err-push.ensures.1 in rw p.1 tt

pub returns-in_err-push-2-clause-owns : goal.returns-in_err-push-2-clause-owns
returns-in_err-push-2-clause-owns c =
    let p = err_from_is_err_and c.from_residual-in_err-push-2.result c.from_residual-in_err-push-2.ensures.1 in rw p.1 tt

pub returns-in_err-push-2-clause-thieves : goal.returns-in_err-push-2-clause-thieves
returns-in_err-push-2-clause-thieves c =
    let p = err_from_is_err_and c.from_residual-in_err-push-2.result c.from_residual-in_err-push-2.ensures.1 in rw p.1 tt

pub returns-in_err-push-2-clause-count : goal.returns-in_err-push-2-clause-count
returns-in_err-push-2-clause-count c =
    let p = err_from_is_err_and c.from_residual-in_err-push-2.result c.from_residual-in_err-push-2.ensures.1 in rw p.1 tt
