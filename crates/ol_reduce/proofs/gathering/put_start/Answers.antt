use Rattle.std.proofs.Common.{◌+◌, ◌%◌, ◌<◌, length, refl, sym, ap, arith}
use Rattle.std.proofs.lemmas.Nat.{mod_below}
use Rattle.ol_reduce.proofs.Starting.{start_more}
use Rattle.ol_reduce.proofs.gathering.put_start.Goals as goal

pub loop-cell-preserved : goal.loop-cell-preserved
loop-cell-preserved c =
    let cell = c.loop-cell.cell in
    let i = cell % c.args.workers.count in
    let hands = c.loop-cell.hands in
    let long = c.loop-cell.invariant.1 in
    let low : i < length hands.items = omega
    (arith, mod_below cell c.args.workers.count c.args.workers.some, long, hands.ok, c.requires.workers.0) in (
      start_more c.args.pool.now cell (cell + 1) i hands.items _ c.index_mut.result.now c.offer.new.hand refl
          (ap (λ n. cell % n) (sym c.requires.workers.1)) low c.index_mut.ensures.value c.loop-cell.invariant.0 c.offer.ensures refl,
      long,
    )
