-- Private: the cells that wait from the start, and which hand puts each of them.
use Rattle.std.specs.Prelude.{◌≡◌, ℕ, ◌+◌, ◌-◌, ◌^◌, ◌%◌, ◌<◌, nat_eq, if◌then◌else◌, List, [], ◌∷◌, length}
use Rattle.ol_rules.specs.Listed.{each}
use Rattle.ol_pool.specs.Pools.{HandState, PoolState, IsHandOf}
use Rattle.ol_pool.specs.Weights.{weigh}

-- the cells below `count` whose remainder by the number of hands is this number
abbrev pub start_cells : (hands count number : ℕ) → List ℕ
start_cells hands count number = each count (λ c. if nat_eq (c % hands) number then c ∷ [] else [])

-- The hand put the start cells of its number and no other cell, but for as many as it counts as
-- refused. It is said where that count doesn't end at its last value.
abbrev pub PutStart : (hands count : ℕ) → HandState → Type 0
PutStart hands count hand =
    hand.refused < 2 ^ 64 - 1
    → (missing : List ℕ) × (length missing ≡ hand.refused)
    × ((h : ℕ → ℕ) → weigh h (start_cells hands count hand.number) ≡ weigh h hand.sent + weigh h missing)

-- the hand is of this pool, and put the start cells of its number
pub record HasStarted (of : PoolState) (count : ℕ) (hand : HandState) : Type 0 where
  pub pool : IsHandOf hand of
  pub put : PutStart of.hands count hand
