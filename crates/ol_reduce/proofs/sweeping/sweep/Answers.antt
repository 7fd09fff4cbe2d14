use Rattle.std.proofs.Common.{◌≡◌, ◌≢◌, refl, sym, ◌∙◌}
use Rattle.ol_wire.specs.declared.turn.Turn.{Turn}
use Rattle.ol_wire.specs.declared.turn.Turn.TheVariants.{Spent}
use Rattle.ol_reduce.specs.Turned.{IsTurn}
use Rattle.ol_reduce.proofs.Turns.{at_next}
use Rattle.ol_reduce.proofs.sweeping.sweep.Goals as goal

pub loop-cell-preserved : goal.loop-cell-preserved
loop-cell-preserved c =
    let z = c.args.shared.now.plan.parts in
    let m = c.loop-cell.seat.view in
    let n = c.is_spent_at.new.seat.view in
    let all : m.holds ≡ m.seats = c.loop-cell.invariant.1 ∙ c.requires.all ∙ sym c.loop-cell.invariant.0.1.1 in
    let turned : (t : Turn) × IsTurn z m c.loop-cell.cell t n
    × (t ≢ Spent) = c.is_spent_at.ensures.turned c.if-is_spent_at.false in (
      c.is_spent_at.ensures.seat,
      c.is_spent_at.ensures.holds ∙ c.loop-cell.invariant.1,
      at_next z c.args.seat.now.view c.loop-cell.cell _ m n turned.0 refl all c.loop-cell.invariant.2 turned.1 turned.2,
    )
