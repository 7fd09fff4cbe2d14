-- Private: what no look of a hand at its pool changes.
use Rattle.std.specs.Borrow.{Bor, MutBor}
use Rattle.ol_pool.specs.Pools.{PoolState, HandState}
use Rattle.ol_pool.specs.declared.pool_look.Fixed.{Fixed}

-- the pool, and of the hand which it is, its number, the cells that it put, and how often a cell was refused
abbrev pub fixed : Bor PoolState → MutBor HandState → Fixed
fixed pool hand = record {
  pool = pool;
  number = hand.now.number;
  sent = hand.now.sent;
  refused = hand.now.refused;
  hand = record { ref_ptr = hand.ref_ptr; ghost_name = hand.ghost_name; now = tt };
}
