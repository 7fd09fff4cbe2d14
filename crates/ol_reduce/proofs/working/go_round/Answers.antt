use Rattle.std.proofs.Common.{true, false, refl, ap, min, ◌+◌, ◌∙◌, arith}
use Rattle.ol_wire.specs.Layout.{cells_of}
use Rattle.ol_reduce.specs.Worked.{rested, turned}
use Rattle.ol_reduce.proofs.Passing.{passed_none, passed_more}
use Rattle.ol_reduce.proofs.Worked.{kept_first, kept_on, kept_own_turn}
use Rattle.ol_reduce.proofs.working.go_round.Goals as goal

pub loop-passed-init : goal.loop-passed-init
loop-passed-init g c = (
  kept_first c.args.shared.now c.args.pool.now c.args.own.now c.requires.work.0
      c.requires.work.1,
  refl,
  rested refl,
  passed_none (cells_of c.args.shared.now.plan.parts) c.args.pace.now.next c.args.own.now,
)

pub returns-then-turn_on-clause-kept : goal.returns-then-turn_on-clause-kept
returns-then-turn_on-clause-kept g c =
    let b = c.args.shared.now in
    let p = c.args.pool.now in
    let kept = c.loop-passed.invariant.0 in
    kept_on b p c.args.own.now c.loop-passed.own c.turn_on.new.own true kept
    (kept_own_turn b p c.loop-passed.own c.turn_on.new.own c.next_cell-cell.result true kept.hand
    c.if-turn_on.ensures.turned)

pub returns-then-turn_on-clause-passed : goal.returns-then-turn_on-clause-passed
returns-then-turn_on-clause-passed g c = (
  c.loop-passed._passed + 1,
  (let end = ap (λ n. min n 64) c.cells-cells.ensures in
      omega (arith, c.loop-passed-test.true, c.min-passed-end.ensures, end)),
  passed_more (cells_of c.args.shared.now.plan.parts) c.args.pace.now.next c.loop-passed.pace.next
      c.loop-passed._passed c.args.own.now c.loop-passed.own c.turn_on.new.own c.cells-cells.result
      c.next_cell-cell.result c.next_cell-cell.new.self.next c.turn_on.new.pace.next c.cells-cells.ensures
      c.loop-passed.invariant.3 c.next_cell-cell.ensures.cell c.next_cell-cell.ensures.goes_on
      c.turn_on.ensures.round c.turn_on.ensures.turned.claimed,
)

pub loop-passed-preserved : goal.loop-passed-preserved
loop-passed-preserved g c =
    let b = c.args.shared.now in
    let p = c.args.pool.now in
    let kept = c.loop-passed.invariant.0 in
    let turn = c.turn_on.ensures.no c.if-turn_on.false in (
      kept_on b p c.args.own.now c.loop-passed.own c.turn_on.new.own false kept
          (kept_own_turn b p c.loop-passed.own c.turn_on.new.own c.next_cell-cell.result false kept.hand
          c.if-turn_on.ensures.turned),
      c.turn_on.ensures.turned.offered.missed ∙ c.loop-passed.invariant.1,
      turned {m = c.loop-passed.own.seat.view} c.next_cell-cell.result turn.0 c.loop-passed.invariant.2 turn.1 turn.2,
      passed_more (cells_of c.args.shared.now.plan.parts) c.args.pace.now.next c.loop-passed.pace.next
          c.loop-passed._passed c.args.own.now c.loop-passed.own c.turn_on.new.own c.cells-cells.result
          c.next_cell-cell.result c.next_cell-cell.new.self.next c.turn_on.new.pace.next c.cells-cells.ensures
          c.loop-passed.invariant.3 c.next_cell-cell.ensures.cell c.next_cell-cell.ensures.goes_on
          c.turn_on.ensures.round c.turn_on.ensures.turned.claimed,
    )
