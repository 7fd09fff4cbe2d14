-- What contracts see of a pool and of its hands.
use Rattle.std.specs.Prelude.{◌≡◌, ℕ, Bool, false, List, [], slice_get}
use Rattle.std.specs.Option.{ForSome}
use Rattle.std.specs.declared.alloc.Global.{Global}
use Rattle.ol_pool.specs.Looks.{Part, part_at, new_part, FirstGave}

-- which deque it is
abbrev pub DequeId : Type 0
DequeId = (ℕ × ℕ) × Global

-- a pool by its number of hands, the bound of its cells, and which deques its parts are
pub record PoolState : Type 0 where
  pub hands : ℕ
  pub cells : ℕ
  pub deques : List DequeId

-- a hand by its number, its pool, the cells that it put, what it knows of each part of the pool, the number of its puts
-- that were refused, how far its own deque has been made ready (2 where it is open), and whether
-- its last `take` answered
-- None
pub record HandState : Type 0 where
  pub number : ℕ
  pub pool : PoolState
  pub sent : List ℕ
  pub parts : List Part
  pub refused : ℕ
  pub stage : ℕ
  pub missed : Bool

-- the hand is of this very pool: they have the same deques
abbrev pub IsHandOf : HandState → PoolState → Type 0
IsHandOf hand pool = hand.pool ≡ pool

-- what the hand knows of the part of a number
abbrev pub part_of : HandState → ℕ → Part
part_of hand p = part_at hand.parts p

-- the hand was given this cell, and each part of the pool before the one that gave it was missed,
-- from the hand's own on
abbrev pub TookFirst : HandState → HandState → ℕ → Type 0
TookFirst old new cell = FirstGave old.number old.pool.hands (part_of old) (part_of new) cell

-- a hand of a pool that made no call yet; its own deque is open
pub record IsNewHand (of : PoolState) (k : ℕ) (hand : HandState) : Type 0 where
  pub number : hand.number ≡ k
  pub pool : IsHandOf hand of
  pub sent : hand.sent ≡ []
  pub parts : (p : ℕ) → part_of hand p ≡ new_part
  pub refused : hand.refused ≡ 0
  pub stage : hand.stage ≡ 2
  pub missed : hand.missed ≡ false

-- the hands of a pool in the order of their numbers, none of which made a call yet
abbrev pub AreDealt : PoolState → List HandState → Type 0
AreDealt pool hands = (k : ℕ) → ForSome (slice_get hands k) (IsNewHand pool k)
