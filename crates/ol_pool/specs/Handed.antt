-- A hand by its deque and its access to the others.
use Rattle.std.specs.Prelude.{◌≡◌, ℕ, ◌+◌, List, All, false, length, map, Some, slice_get, slice_set}
use Rattle.ol_pool.specs.Looks.{Part}
use Rattle.ol_pool.specs.Owned.{OwnState, ReachState, reach_part, own_part, IsReach}
use Rattle.ol_pool.specs.Pools.{DequeId, PoolState, HandState}

-- which deques these are
abbrev pub deques_of : List ReachState → List DequeId
deques_of others = map (λ r. r.deque) others

-- the parts of the pool: the hand's own, and the others'
abbrev pub parts_of : ℕ → OwnState → ℕ → List ReachState → List Part
parts_of number own empties others = slice_set (map reach_part others) number (own_part own empties)

-- the pool of a hand
abbrev pub pool_of : OwnState → List ReachState → PoolState
pool_of own others = record { hands = length others; cells = own.log.bound; deques = deques_of others }

-- a hand that made no call yet
abbrev pub new_hand : ℕ → OwnState → List ReachState → HandState
new_hand number own others = record {
  number = number;
  pool = pool_of own others;
  sent = own.log.sent;
  parts = parts_of number own 0 others;
  refused = 0;
  stage = own.log.stage;
  missed = false;
}

-- its own deque is the one of its number, and it has access to all, which have one bound
pub record IsHand (k : ℕ) (mine : OwnState) (rows : List ReachState) : Type 0 where
  pub deque : slice_get (deques_of rows) k ≡ Some mine.deque
  pub others : All (IsReach mine.log.bound) rows
  pub parts : mine.log.parts + length rows ≡ 128
