-- The two sides of a deque, and a hand's access to all.
use Rattle.std.specs.Prelude.{◌≡◌, ℕ, ◌-◌, ◌<◌, ◌^◌, List, [], ◌∷◌, All, map, Some, slice_get, Vec}
use Rattle.std.specs.declared.alloc.Global.{Global}
use Rattle.ol_pool.specs.declared.deques.Log.{Log}
use Rattle.ol_pool.specs.Deques.{AllBelow, log, lends, lent, gets}
use Rattle.ol_pool.specs.Looks.{Part, Rose}
use Rattle.ol_pool.specs.Pools.{DequeId, PoolState}

-- a deque from its owner's side
pub record OwnState : Type 0 where
  pub deque : DequeId
  pub log : Log

-- a hand's own deque, how often it was looked at in vain, and how often it refused a cell
pub record HomeState : Type 0 where
  pub own : OwnState
  pub empties : ℕ
  pub refused : ℕ

-- a look at it that found no cell, and one that gave this cell
abbrev pub FoundEmpty : HomeState → HomeState → Type 0
FoundEmpty h n = (n ≡ record h { empties = n.empties }) × Rose h.empties n.empties × (n.empties < 2 ^ 64)

abbrev pub FoundCell : ℕ → HomeState → HomeState → Type 0
FoundCell cell h n = n ≡ record h { own = record h.own { log = gets h.own.log (cell ∷ []) } }

-- another's deque, as a hand knows it, and how often it was looked at in vain
pub record ReachState : Type 0 where
  pub deque : DequeId
  pub log : Log
  pub empties : ℕ
  pub agains : ℕ

abbrev pub reach_of : DequeId → Log → ReachState
reach_of deque log = record { deque = deque; log = log; empties = 0; agains = 0 }

-- access with which no look was made
abbrev pub new_reach : DequeId → ℕ → ReachState
new_reach deque bound = reach_of deque (lent bound)

-- a hand's part of the pool, as another sees it
abbrev pub reach_part : ReachState → Part
reach_part r = record { given = r.log.given; empties = r.empties; agains = r.agains }

-- and as its own hand sees it
abbrev pub own_part : OwnState → ℕ → Part
own_part own empties = record { given = own.log.given; empties = empties; agains = 0 }

-- access to an open deque with this bound
abbrev pub IsReach : ℕ → ReachState → Type 0
IsReach bound r =
    (r.log.stage ≡ 2) × (r.log.bound ≡ bound) × (r.log.parts ≡ 1) × AllBelow bound r.log.given
    × (r.empties < 2 ^ 64) × (r.agains < 2 ^ 64)

-- this deque stands at that place
abbrev pub IsDequeAt : List DequeId → ℕ → DequeId → Type 0
IsDequeAt deques at deque = slice_get deques at ≡ Some deque

-- access for one hand to each deque of a pool
abbrev pub row_of : PoolState → List ReachState
row_of pool = map (λ deque. new_reach deque pool.cells) pool.deques

-- these are the deques of a pool from their owners' sides, without a cell, after this number of rows of access was lent
abbrev pub AreOpen : PoolState → ℕ → List OwnState → Type 0
AreOpen pool rows owns =
    All (λ own. own.log ≡ log pool.cells (128 - rows) [] []) owns × (map (λ own. own.deque) owns ≡ pool.deques)

abbrev pub AreRows : PoolState → List (Vec ReachState Global) → Type 0
AreRows pool rows = All (λ row. row.items ≡ row_of pool) rows

-- one part of the right to know the whole was given away
abbrev pub lends_one : OwnState → OwnState
lends_one own = record own { log = lends own.log }
