use Rattle.std.proofs.lemmas.Result.{err_from_is_err_and}
use Rattle.ol_pool.proofs.pool.Pool.new.Goals as goal

pub returns-in_err-owns-clause-hands : goal.returns-in_err-owns-clause-hands
returns-in_err-owns-clause-hands c =
    let p = err_from_is_err_and c.from_residual.result c.from_residual.ensures.1 in rw p.1 tt

pub returns-in_err-owns-clause-cells : goal.returns-in_err-owns-clause-cells
returns-in_err-owns-clause-cells c =
    let p = err_from_is_err_and c.from_residual.result c.from_residual.ensures.1 in rw p.1 tt

pub returns-in_err-owns-clause-count : goal.returns-in_err-owns-clause-count
returns-in_err-owns-clause-count c =
    let p = err_from_is_err_and c.from_residual.result c.from_residual.ensures.1 in rw p.1 tt

pub returns-in_err-owns-clause-each : goal.returns-in_err-owns-clause-each
returns-in_err-owns-clause-each c =
    let p = err_from_is_err_and c.from_residual.result c.from_residual.ensures.1 in rw p.1 tt

pub returns-in_err-owns-clause-same_pool : goal.returns-in_err-owns-clause-same_pool
returns-in_err-owns-clause-same_pool c =
    let p = err_from_is_err_and c.from_residual.result c.from_residual.ensures.1 in rw p.1 tt

pub returns-in_err-owns-clause-open : goal.returns-in_err-owns-clause-open
returns-in_err-owns-clause-open c =
    let p = err_from_is_err_and c.from_residual.result c.from_residual.ensures.1 in rw p.1 tt

pub returns-in_err-rows-clause-hands : goal.returns-in_err-rows-clause-hands
returns-in_err-rows-clause-hands c =
    let p = err_from_is_err_and c.from_residual-in_err-rows.result c.from_residual-in_err-rows.ensures.1 in rw p.1 tt

pub returns-in_err-rows-clause-cells : goal.returns-in_err-rows-clause-cells
returns-in_err-rows-clause-cells c =
    let p = err_from_is_err_and c.from_residual-in_err-rows.result c.from_residual-in_err-rows.ensures.1 in rw p.1 tt

pub returns-in_err-rows-clause-count : goal.returns-in_err-rows-clause-count
returns-in_err-rows-clause-count c =
    let p = err_from_is_err_and c.from_residual-in_err-rows.result c.from_residual-in_err-rows.ensures.1 in rw p.1 tt

pub returns-in_err-rows-clause-each : goal.returns-in_err-rows-clause-each
returns-in_err-rows-clause-each c =
    let p = err_from_is_err_and c.from_residual-in_err-rows.result c.from_residual-in_err-rows.ensures.1 in rw p.1 tt

pub returns-in_err-rows-clause-same_pool : goal.returns-in_err-rows-clause-same_pool
returns-in_err-rows-clause-same_pool c =
    let p = err_from_is_err_and c.from_residual-in_err-rows.result c.from_residual-in_err-rows.ensures.1 in rw p.1 tt

pub returns-in_err-rows-clause-open : goal.returns-in_err-rows-clause-open
returns-in_err-rows-clause-open c =
    let p = err_from_is_err_and c.from_residual-in_err-rows.result c.from_residual-in_err-rows.ensures.1 in rw p.1 tt

pub returns-in_err-made-clause-hands : goal.returns-in_err-made-clause-hands
returns-in_err-made-clause-hands c =
    let p = err_from_is_err_and c.from_residual-in_err-made.result c.from_residual-in_err-made.ensures.1 in rw p.1 tt

pub returns-in_err-made-clause-cells : goal.returns-in_err-made-clause-cells
returns-in_err-made-clause-cells c =
    let p = err_from_is_err_and c.from_residual-in_err-made.result c.from_residual-in_err-made.ensures.1 in rw p.1 tt

pub returns-in_err-made-clause-count : goal.returns-in_err-made-clause-count
returns-in_err-made-clause-count c =
    let p = err_from_is_err_and c.from_residual-in_err-made.result c.from_residual-in_err-made.ensures.1 in rw p.1 tt

pub returns-in_err-made-clause-each : goal.returns-in_err-made-clause-each
returns-in_err-made-clause-each c =
    let p = err_from_is_err_and c.from_residual-in_err-made.result c.from_residual-in_err-made.ensures.1 in rw p.1 tt

pub returns-in_err-made-clause-same_pool : goal.returns-in_err-made-clause-same_pool
returns-in_err-made-clause-same_pool c =
    let p = err_from_is_err_and c.from_residual-in_err-made.result c.from_residual-in_err-made.ensures.1 in rw p.1 tt

pub returns-in_err-made-clause-open : goal.returns-in_err-made-clause-open
returns-in_err-made-clause-open c =
    let p = err_from_is_err_and c.from_residual-in_err-made.result c.from_residual-in_err-made.ensures.1 in rw p.1 tt
