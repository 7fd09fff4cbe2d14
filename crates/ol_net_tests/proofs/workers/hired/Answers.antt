-- A worker with a new seat is seated.
use Rattle.std.proofs.Common.{◌≡◌, ap, sym, subst, arith}
use Rattle.ol_pool.specs.Pools.{HandState, IsHandOf as IsOfPool}
use Rattle.ol_wire.specs.declared.view.View.{View}
use Rattle.ol_wire.specs.Stand.{TableState, SeatState, IsNewSeat}
use Rattle.ol_reduce.specs.Works.{IsSeated}
use Rattle.ol_reduce.specs.declared.workers.Worker.{Worker}
use Rattle.ol_net_tests.proofs.workers.hired.Goals as goal

seated : (b : TableState) (w : Worker) → IsNewSeat b w.seat → IsSeated b w
seated b w f =
    let holds : w.seat.view.holds ≡ 1 = ap (λ (v : View). v.holds) f.1 in (
      (
        f.0,
        (
          ap (λ (v : View). v.parts) f.1,
          ap (λ (v : View). v.seats) f.1,
          omega (arith, holds),
          ap (λ (v : View). v.start) f.1,
        ),
      ),
      holds,
    )

pub returns : goal.returns
returns c =
    let b = c.args.table.now in
    let p = c.args.pool.now in (
      seated b c.new.result (subst (λ (x : SeatState). IsNewSeat b x) (sym c.new.ensures.seat) c.requires.seat),
      subst (λ (x : HandState). IsOfPool x p) (sym c.new.ensures.hand) c.requires.hand,
    )
