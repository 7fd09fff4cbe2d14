use Rattle.std.proofs.lemmas.Result.{err_from_is_err_and}
use Rattle.ol_beta.proofs.contracting.+contract_at.Goals as goal

pub returns-in_err-after : goal.returns-in_err-after
returns-in_err-after t c = let p = err_from_is_err_and c.from_residual.result c.from_residual.ensures.1 in rw p.1 tt

pub returns-in_err-found-in-Lam : goal.returns-in_err-found-in-Lam
returns-in_err-found-in-Lam t c = let p = err_from_is_err_and c.from_residual-in_err-found-in-Lam.result c.from_residual-in_err-found-in-Lam.ensures.1 in rw p.1 tt

pub returns-in_err-found-in-App : goal.returns-in_err-found-in-App
returns-in_err-found-in-App t c = let p = err_from_is_err_and c.from_residual-in_err-found-in-App.result c.from_residual-in_err-found-in-App.ensures.1 in rw p.1 tt

pub returns-in_err-found-in-App-2 : goal.returns-in_err-found-in-App-2
returns-in_err-found-in-App-2 t c = let p = err_from_is_err_and c.from_residual-in_err-found-in-App-2.result c.from_residual-in_err-found-in-App-2.ensures.1 in rw p.1 tt
