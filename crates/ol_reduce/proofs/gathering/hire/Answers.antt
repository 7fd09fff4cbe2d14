use Rattle.std.proofs.Common.{◌≡◌, ◌∙◌, refl, sym, ap, subst, arith, IfSome, Option, ◌++◌, ◌∷◌, [], length}
use Rattle.core.specs.Option.{option_to_list}
use Rattle.std.proofs.lemmas.List.Elements.{All-pop, All-push, All-same}
use Rattle.ol_pool.specs.Pools.{HandState}
use Rattle.ol_wire.specs.Stand.{SeatState, IsNewSeat}
use Rattle.ol_reduce.specs.Started.{HasStarted}
use Rattle.ol_reduce.specs.Works.{IsWorker, IsPadded}
use Rattle.ol_reduce.proofs.Hired.{worker_of_fresh}
use Rattle.ol_reduce.proofs.gathering.hire.Goals as goal

pub loop-seat-preserved : goal.loop-seat-preserved
loop-seat-preserved c =
    let b = c.args.shared.now in
    let p = c.args.pool.now in
    let h = c.loop-seat.invariant in
    let s = All-pop (IsNewSeat b) c.loop-seat.seats.items c.pop.new.self.items c.pop.result c.pop.ensures.items h.0 in
    let cells = b.plan.parts.cells in
    let t = All-pop (HasStarted p cells) c.loop-seat.hands.items
    c.pop-in-Some.new.self.items c.pop-in-Some.result c.pop-in-Some.ensures.items h.1 in
    let seat : IsNewSeat b c.in-Some.seat = subst (λ (r : Option SeatState). IfSome r (IsNewSeat b)) c.in-Some.is s.1 in
    let hand : HasStarted p cells c.unwrap-hand.result = subst
    (λ (r : Option HandState). IfSome r (HasStarted p cells)) c.unwrap-hand.ensures t.1 in
    let taken : length (option_to_list c.pop-in-Some.result) ≡ 1 = subst
    (λ (r : Option HandState). length (option_to_list r) ≡ 1) (sym c.unwrap-hand.ensures) refl in
    let made = c.new-worker in
    let one : IsWorker b p made.result = worker_of_fresh b p made.result
    (subst (λ (x : SeatState). IsNewSeat b x) (sym made.ensures.seat) seat)
    (made.ensures.number ∙ c.number-number.ensures.is ∙ ap (λ (x : HandState). x.number) (sym made.ensures.hand))
    (subst (HasStarted p cells) (sym made.ensures.hand) hand) in
    let padded : IsPadded (IsWorker b p) c.new-padded.result = subst (IsWorker b p) (sym c.new-padded.ensures) one in (
      s.0,
      t.0,
      All-same (IsPadded (IsWorker b p)) c.push.new.self.items
          (c.loop-seat.workers.items ++ c.new-padded.result ∷ []) c.in_ok-push.ensures.items
          (All-push (IsPadded (IsWorker b p)) c.loop-seat.workers.items c.new-padded.result h.2 padded),
      omega (arith, h.3, taken, c.in-Some.ensures.len, c.pop-in-Some.ensures.len),
      omega (arith, h.4, c.in-Some.ensures.len, c.in_ok-push.ensures.len),
    )
