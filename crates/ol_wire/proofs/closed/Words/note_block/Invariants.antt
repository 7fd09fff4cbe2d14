use Rattle.std.proofs.Common.{◌≡◌, ◌+◌, ◌*◌}
use Rattle.ol_wire.specs.Closed.{filled_below}
use Rattle.ol_wire.proofs.closed.Words.note_block.Given as goal

abbrev pub invariant-loop-j : goal.invariant-loop-j
invariant-loop-j l = l.cells.items ≡ filled_below l.self (l.self.plan.parts.cells + 4 * l.k + l.j)
