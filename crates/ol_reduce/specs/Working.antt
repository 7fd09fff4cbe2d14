-- What a worker's seat and hand tell of each other after a call: the seat's claims and publications, and the cells that
-- the hand was given and put.
use Rattle.std.specs.Prelude.{◌≡◌, ℕ, ◌+◌, ◌-◌, ◌^◌, ◌<◌, ◌≤◌, Bool, true, false, Option, None, Some, List, [], ◌∷◌, ◌++◌, length}
use Rattle.ol_pool.specs.Pools.{HandState}
use Rattle.ol_pool.specs.Weights.{weigh, weigh_given}
use Rattle.ol_wire.specs.Stand.{SeatState}
use Rattle.ol_reduce.specs.declared.answers.End.{End}
use Rattle.ol_reduce.specs.declared.answers.End.TheVariants.{Quiet, Spent}

-- Each cell that the hand was given in the call was claimed by the seat in the call, as often as it
-- was given: however cells are weighed, the hand was given no more than the seat claimed.
abbrev pub ClaimsGiven : SeatState → HandState → SeatState → HandState → Type 0
ClaimsGiven s v t n =
    (claimed : List ℕ) × (t.view.claimed ≡ s.view.claimed ++ claimed)
    × ((h : ℕ → ℕ) → weigh_given h n ≤ weigh_given h v + weigh h claimed)

-- The hand put these cells, except some that are missing, as many as it counts refused puts.
abbrev pub HasPut : HandState → List ℕ → HandState → Type 0
HasPut v cells n =
    (put : List ℕ) × (missing : List ℕ) × (n.sent ≡ v.sent ++ put) × (v.refused + length missing ≡ n.refused)
    × ((h : ℕ → ℕ) → weigh h cells ≡ weigh h put + weigh h missing)

-- whether the last turn answered Spent, by how the work ended, if it did
abbrev pub is_spent : Option End → Bool
is_spent (Some Spent) = true
is_spent (Some Quiet) = false
is_spent None = false

-- the cell of the last turn, where this turn answered Spent: its pair is in it again
abbrev pub spent_cell : Bool → SeatState → List ℕ
spent_cell true s = s.view.cell ∷ []
spent_cell false s = []

-- Each cell that the seat published in the call was put by the hand in the call, and so was the cell of a last turn that
-- answered Spent; or it is one of those that are missing. It is said where the count of refused puts doesn't end at its
-- last value.
abbrev pub PutsPublished : SeatState → HandState → Bool → SeatState → HandState → Type 0
PutsPublished s v spent t n =
    n.refused < 2 ^ 64 - 1
    → (published : List ℕ) × (t.view.published ≡ s.view.published ++ published) × HasPut v (spent_cell spent t ++ published) n
