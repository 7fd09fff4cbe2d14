-- A new worker is one of this table and this pool.
use Rattle.std.proofs.Common.{◌≡◌, ap, arith}
use Rattle.ol_pool.specs.Pools.{PoolState}
use Rattle.ol_wire.specs.declared.view.View.{View}
use Rattle.ol_wire.specs.Stand.{TableState, IsNewSeat}
use Rattle.ol_reduce.specs.Started.{HasStarted}
use Rattle.ol_reduce.specs.Works.{IsWorker}
use Rattle.ol_reduce.specs.declared.workers.Worker.{Worker}

pub worker_of_fresh : (b : TableState) (p : PoolState) (w : Worker) → IsNewSeat b w.seat →
    w.number ≡ w.hand.number → HasStarted p b.plan.parts.cells w.hand → IsWorker b p w
worker_of_fresh b p w f number hand =
    let holds : w.seat.view.holds ≡ 1 = ap (λ (v : View). v.holds) f.1 in (
      (
        (
          f.0,
          (
            ap (λ (v : View). v.parts) f.1,
            ap (λ (v : View). v.seats) f.1,
            omega (arith, holds),
            ap (λ (v : View). v.start) f.1,
          ),
        ),
        holds,
      ),
      number,
      hand,
    )
