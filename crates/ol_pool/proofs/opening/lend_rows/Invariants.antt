use Rattle.std.proofs.Common.{◌≡◌, length}
use Rattle.ol_pool.specs.Owned.{AreOpen, AreRows}
use Rattle.ol_pool.proofs.opening.lend_rows.Given as goal

abbrev pub invariant-loop : goal.invariant-loop
invariant-loop l = AreOpen l.pool l.counter l.owns.items × AreRows l.pool l.rows.items
    × (length l.rows.items ≡ l.counter)
