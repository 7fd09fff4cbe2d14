use Rattle.std.proofs.Common.{◌≡◌}
use Rattle.ol_orders.specs.Replays.{names_of}
use Rattle.ol_orders.specs.Turns.{born_lines}
use Rattle.ol_orders.proofs.turns.put_born.Given as goal

-- the nodes so far have their lines
abbrev pub invariant-loop-k : goal.invariant-loop-k
invariant-loop-k l = l.lines.items ≡ born_lines (names_of l.replay) l.replay.net l.from l.k
