-- Private: how much of a closed table is in use.
use Rattle.std.specs.Prelude.{ℕ, ◌+◌, ◌*◌}
use Rattle.ol_wire.specs.Closed.{ClosedTable, events_in}

-- the number of wires in use: those of the start, and four for each ticket that was drawn
abbrev pub wires_used : ClosedTable → ℕ
wires_used w = w.plan.parts.wires + 4 * events_in w.plan.parts w.words
