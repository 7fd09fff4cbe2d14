use Rattle.std.proofs.Common.{◌≡◌}
use Rattle.ol_orders.specs.Replays.{names_of}
use Rattle.ol_orders.specs.Turns.{left_lines}
use Rattle.ol_orders.proofs.pairs.put_left.Given as goal

-- the pairs so far have their lines
abbrev pub invariant-loop-n : goal.invariant-loop-n
invariant-loop-n l = l.lines.items ≡ left_lines (names_of l.replay) l.replay.net l.n
