use Rattle.std.proofs.Common.{true, false, refl, arith}
use Rattle.ol_pool.proofs.Weighing.{taken_weighs, missed_weighs}
use Rattle.ol_reduce.specs.Worked.{rested, turned}
use Rattle.ol_reduce.specs.Working.{is_spent}
use Rattle.ol_reduce.proofs.Worked.{kept_on, kept_turn, kept_missed}
use Rattle.ol_reduce.proofs.working.go_on.Goals as goal

pub returns-in_default-clause-kept : goal.returns-in_default-clause-kept
returns-in_default-clause-kept g c =
    let b = c.args.shared.now in
    let p = c.args.pool.now in
    let own = c.args.own.now in
    kept_on b p own (record own { hand = c.take.new.hand }) c.wait_on.new.own (is_spent c.wait_on.result)
    (kept_missed b p own (record own { hand = c.take.new.hand }) refl refl c.requires.work.0
    c.take.ensures.hand c.take.ensures.sent c.take.ensures.refused
    (λ h. missed_weighs h own.hand.parts c.take.new.hand.parts c.in_default.ensures.stay))
    c.wait_on.ensures.kept

pub returns-then-turn_on-clause-kept : goal.returns-then-turn_on-clause-kept
returns-then-turn_on-clause-kept g c =
    let own = c.args.own.now in
    kept_turn c.args.shared.now c.args.pool.now own
    (record own { hand = c.take.new.hand }) c.turn_on.new.own c.in-Some.cell true refl refl
    c.take.ensures.hand c.take.ensures.sent c.take.ensures.refused
    (λ h. let e = taken_weighs h own.hand.parts c.take.new.hand.parts c.args.pool.now.hands
    c.in-Some.cell c.in-Some.ensures.one in omega arith)
    c.if-turn_on.ensures.turned

pub returns-then-turn_on-clause-goes : goal.returns-then-turn_on-clause-goes
returns-then-turn_on-clause-goes g c = (
  c.args.own.now.seat.view,
  c.in-Some.cell,
  rested refl,
  c.turn_on.ensures.yes c.if-turn_on.true,
)

pub returns-clause-kept : goal.returns-clause-kept
returns-clause-kept g c =
    let own = c.args.own.now in
    kept_turn c.args.shared.now c.args.pool.now own
    (record own { hand = c.take.new.hand }) c.turn_on.new.own c.in-Some.cell false refl refl
    c.take.ensures.hand c.take.ensures.sent c.take.ensures.refused
    (λ h. let e = taken_weighs h own.hand.parts c.take.new.hand.parts c.args.pool.now.hands
    c.in-Some.cell c.in-Some.ensures.one in omega arith)
    c.if-turn_on.ensures.turned

pub returns-clause-goes : goal.returns-clause-goes
returns-clause-goes g c =
    let turn = c.turn_on.ensures.no c.if-turn_on.false in
    turned {m = c.args.own.now.seat.view} c.in-Some.cell turn.0 (rested refl) turn.1 turn.2
