use Rattle.std.proofs.Common.{ℕ, ◌<◌}
use Rattle.ol_orders.specs.Same.{HasHead}
use Rattle.ol_orders.proofs.reading.net_at.Given as goal

-- the line stands at none of the bytes so far
abbrev pub invariant-loop-at : goal.invariant-loop-at
invariant-loop-at l = (k : ℕ) → k < l.at → HasHead l.bytes k → ⊥
