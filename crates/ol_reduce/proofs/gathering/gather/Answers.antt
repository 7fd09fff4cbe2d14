use Rattle.std.proofs.Common.{◌≡◌, IfSome, Option, length, true, refl, sym, ap, ◌∙◌, subst, arith}
use Rattle.core.specs.Option.{option_to_list}
use Rattle.crossbeam_utils.specs.declared.cache_padded.CachePadded.{CachePadded}
use Rattle.std.proofs.lemmas.List.Elements.{All-pop}
use Rattle.ol_wire.specs.declared.view.View.{View}
use Rattle.ol_wire.specs.Plays.{joined}
use Rattle.ol_wire.specs.Stand.{SeatState, IsSeatOf}
use Rattle.ol_reduce.specs.declared.workers.Worker.{Worker}
use Rattle.ol_reduce.specs.Works.{IsEnded, IsPadded}
use Rattle.ol_reduce.proofs.Worked.{any_settled, all_over}
use Rattle.ol_reduce.proofs.gathering.gather.Goals as goal

pub loop-padded-init : goal.loop-padded-init
loop-padded-init c =
    let b = c.args.shared.now in
    let t = All-pop (IsPadded (IsEnded b)) c.args.workers.items c.pop.new.self.items c.pop.result
    c.pop.ensures.items c.requires.workers in
    let padded : IsPadded (IsEnded b) c.unwrap.result = subst
    (λ (r : Option (CachePadded Worker)). IfSome r (IsPadded (IsEnded b))) c.unwrap.ensures t.1 in
    let own : IsEnded b c.into_inner-first.result = subst (IsEnded b) (sym c.into_inner-first.ensures) padded in
    let taken : length (option_to_list c.pop.result) ≡ 1 = subst
    (λ (r : Option (CachePadded Worker)). length (option_to_list r) ≡ 1) (sym c.unwrap.ensures) refl in
    let seat = c.into_seat-seat.ensures in
    let holds = ap (λ (s : SeatState). s.view.holds) seat in (
      subst (λ (s : SeatState). IsSeatOf b s) (sym seat) own.0.0,
      t.0,
      omega (arith, holds, own.0.1, taken, c.pop.ensures.len),
      λ e. subst (λ (s : SeatState). s.view.settled ≡ true) (sym seat) (own.1 e),
      λ e. subst (λ (s : SeatState). s.view.over ≡ true) (sym seat) (own.2 e),
    )

pub join-requires : goal.join-requires
join-requires c =
    let b = c.args.shared.now in
    let i = c.loop-padded.invariant in
    let t = All-pop (IsPadded (IsEnded b)) c.loop-padded.workers.items
    c.pop-in-loop-padded.new.self.items c.pop-in-loop-padded.result c.pop-in-loop-padded.ensures.items i.1 in
    let padded : IsPadded (IsEnded b) c.in-Some.padded = subst
    (λ (r : Option (CachePadded Worker)). IfSome r (IsPadded (IsEnded b))) c.in-Some.is t.1 in
    let own : IsEnded b c.into_inner-other.result = subst (IsEnded b) (sym c.into_inner-other.ensures) padded in
    record { seats = (i.0, subst (λ (s : SeatState). IsSeatOf b s) (sym c.into_seat.ensures) own.0.0) }

pub loop-padded-preserved : goal.loop-padded-preserved
loop-padded-preserved c =
    let b = c.args.shared.now in
    let i = c.loop-padded.invariant in
    let t = All-pop (IsPadded (IsEnded b)) c.loop-padded.workers.items
    c.pop-in-loop-padded.new.self.items c.pop-in-loop-padded.result c.pop-in-loop-padded.ensures.items i.1 in
    let padded : IsPadded (IsEnded b) c.in-Some.padded = subst
    (λ (r : Option (CachePadded Worker)). IfSome r (IsPadded (IsEnded b))) c.in-Some.is t.1 in
    let own : IsEnded b c.into_inner-other.result = subst (IsEnded b) (sym c.into_inner-other.ensures) padded in
    let taken : length (option_to_list c.pop-in-loop-padded.result) ≡ 1 = subst
    (λ (r : Option (CachePadded Worker)). length (option_to_list r) ≡ 1) (sym c.in-Some.is) refl in
    let from = ap (λ (s : SeatState). s.view.holds) c.into_seat.ensures in
    let both = ap (λ (v : View). v.holds) c.join.ensures.view in
    let view : c.join.new.into.view ≡ joined c.loop-padded.seat.view
    c.into_inner-other.result.seat.view = subst
    (λ (s : SeatState). c.join.new.into.view ≡ joined c.loop-padded.seat.view s.view)
    c.into_seat.ensures c.join.ensures.view in (
      c.join.ensures.seat,
      t.0,
      omega (arith, i.2, both, from, own.0.1, taken, c.pop-in-loop-padded.ensures.len),
      λ e. any_settled c.loop-padded.is_quiet c.into_inner-other.result.is_quiet
          c.loop-padded.seat.view c.into_inner-other.result.seat.view c.join.new.into.view view i.3
          own.1 (sym c.either-is_either.ensures ∙ e),
      λ e. all_over c.loop-padded.is_quiet c.into_inner-other.result.is_quiet
          c.loop-padded.seat.view c.into_inner-other.result.seat.view c.join.new.into.view view i.4
          own.2 (sym c.either-is_either.ensures ∙ e),
    )
