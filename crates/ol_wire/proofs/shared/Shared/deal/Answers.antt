-- No seat is dealt before the first.
use Rattle.std.proofs.Common.{◌≡◌, ◌+◌, ◌-◌, [], ◌∷◌, ◌++◌, All, List, ap, sym, ◌∙◌, subst, arith}
use Rattle.std.proofs.lemmas.List.Elements.{All-append, All-cons}
use Rattle.ol_wire.specs.StepPlays.{fewer, one_seat}
use Rattle.ol_wire.specs.Views.{fresh}
use Rattle.ol_wire.specs.Stand.{SeatState, TableState, IsNewSeat}
use Rattle.ol_wire.proofs.shared.Shared.deal.Goals as goal

-- a member more
snoc_fresh : (b : TableState) (l m : List SeatState) (x : SeatState) → m ≡ l ++ x ∷ [] →
    All (IsNewSeat b) l → IsNewSeat b x → All (IsNewSeat b) m
snoc_fresh b l m x e all one = subst (λ (k : List SeatState). All (IsNewSeat b) k) (sym e)
    (All-append (IsNewSeat b) l (x ∷ []) all (All-cons (IsNewSeat b) x [] one (λ k d lt. absurd (omega arith))))

none_fresh : (b : TableState) (l : List SeatState) → l ≡ [] → All (IsNewSeat b) l
none_fresh b l e = subst (λ (k : List SeatState). All (IsNewSeat b) k) (sym e) (λ k d lt. absurd (omega arith))

pub cut-one-requires-clause-table : goal.cut-one-requires-clause-table
cut-one-requires-clause-table c = c.loop.invariant.0

pub cut-one-requires-clause-holds : goal.cut-one-requires-clause-holds
cut-one-requires-clause-holds c = (
  omega
      (arith, ap (λ v. v.holds) c.loop.invariant.1, c.loop-test.true),
  ap (λ v. v.over) c.loop.invariant.1,
)

pub cut-one-requires-clause-unswept : goal.cut-one-requires-clause-unswept
cut-one-requires-clause-unswept c = ap (λ v. v.swept) c.loop.invariant.1

pub loop-init : goal.loop-init
loop-init c = let e : c.args.count + 1 - 1 ≡ c.args.count = omega arith in (
  c.requires.seat.0,
  c.requires.seat.1
      ∙ ap (fresh c.args.self.now.plan.parts c.args.self.now.plan.start.value
      c.args.self.now.plan.seats) (sym e),
  omega (arith, c.in_ok-seats.ensures.len),
  none_fresh c.args.self.now c.in_ok-seats.seats.items c.in_ok-seats.ensures.items,
)

pub loop-preserved : goal.loop-preserved
loop-preserved c =
    let h = c.loop.invariant in
    let z = c.args.self.now.plan.parts in
    let g = c.args.self.now.plan.seats in
    let e : c.args.count + 1 - c.loop.counter - 1 ≡ c.args.count + 1 - (c.loop.counter + 1) = omega arith in (
      c.cut-one.ensures.left.0 ∙ h.0,
      c.cut-one.ensures.left.1 ∙ ap fewer h.1 ∙ ap (fresh z c.args.self.now.plan.start.value g) e,
      omega (arith, c.in_ok-push.ensures.len, h.2),
      snoc_fresh c.args.self.now c.loop.seats.items c.push.new.self.items c.cut-one.result
          c.in_ok-push.ensures.items h.3 (c.cut-one.ensures.right.0 ∙ h.0, c.cut-one.ensures.right.1 ∙ ap one_seat h.1),
    )

pub returns : goal.returns
returns c =
    let h = c.loop.invariant in
    let z = c.args.self.now.plan.parts in
    let g = c.args.self.now.plan.seats in
    let e : c.args.count + 1 - c.loop.counter ≡ 1 = omega
    (arith, c.loop-test.false, c.loop.auto.counter, c.loop.auto.counter-end (omega (arith, c.requires.seat.2))) in (
      omega (arith, c.in_ok-push-2.ensures.len, h.2, e, c.loop-test.false),
      snoc_fresh c.args.self.now c.loop.seats.items c.push-2.new.self.items c.loop.seat
          c.in_ok-push-2.ensures.items h.3 (h.0, h.1 ∙ ap (fresh z c.args.self.now.plan.start.value g) e),
    )
