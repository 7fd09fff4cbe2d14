use Rattle.std.proofs.Common.{◌≡◌, ◌++◌, List, length, reverse}
use Rattle.ol_pool.specs.Owned.{OwnState, AreRows}
use Rattle.ol_pool.proofs.Dealing.{dealt}
use Rattle.ol_pool.proofs.opening.deal.Given as goal

abbrev pub invariant-loop-own : goal.invariant-loop-own
invariant-loop-own l =
    ((rest : List OwnState) × (l.fn.owns.items ≡ l.owns.items ++ rest))
    × AreRows l.pool l.rows.items
    × (length l.rows.items ≡ length l.owns.items)
    × (dealt l.pool 0 l.owns.items ++ reverse l.hands.items ≡ dealt l.pool 0 l.fn.owns.items)

abbrev pub decreases-loop-own : goal.decreases-loop-own
decreases-loop-own l = length l.owns.items
