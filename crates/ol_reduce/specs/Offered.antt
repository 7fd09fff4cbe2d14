-- Private: what a hand is after cells were offered to its pool.
use Rattle.std.specs.Prelude.{◌≡◌, ◌-◌, ◌^◌, ◌<◌, ◌≤◌, List, ℕ}
use Rattle.ol_pool.specs.Pools.{HandState}
use Rattle.ol_reduce.specs.Working.{HasPut}

pub record HasOffered (v : HandState) (cells : List ℕ) (n : HandState) : Type 0 where
  pub number : n.number ≡ v.number
  pub pool : n.pool ≡ v.pool
  pub parts : n.parts ≡ v.parts
  pub missed : n.missed ≡ v.missed
  pub refused : v.refused ≤ n.refused
  pub put : n.refused < 2 ^ 64 - 1 → HasPut v cells n
