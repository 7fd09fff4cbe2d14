use Rattle.std.proofs.Common.{◌≡◌}
use Rattle.ol_wire.specs.Closed.{filled_below}
use Rattle.ol_wire.proofs.closed.Words.note_start.Given as goal

abbrev pub invariant-loop-cell : goal.invariant-loop-cell
invariant-loop-cell l = l.cells.items ≡ filled_below l.self l.cell
