-- Private: what holds of a worker between its calls, and what each part of its work leaves.
use Rattle.std.specs.Prelude.{◌≡◌, ◌++◌, ◌∷◌, [], ℕ, ◌≤◌, List, Bool, true, false, Option, None, Some}
use Rattle.crossbeam_utils.specs.declared.cache_padded.CachePadded.{CachePadded}
use Rattle.crossbeam_utils.specs.Padded.{padded_value}
use Rattle.ol_pool.specs.Pools.{PoolState, IsHandOf as IsOfPool}
use Rattle.ol_wire.specs.Layout.{cells_of}
use Rattle.ol_wire.specs.Stand.{TableState, SeatState, IsSeatOf}
use Rattle.ol_wire.specs.Turns.{HasListened}
use Rattle.ol_reduce.specs.declared.answers.End.{End}
use Rattle.ol_reduce.specs.declared.answers.End.TheVariants.{Quiet, Spent}
use Rattle.ol_reduce.specs.declared.workers.Worker.{Worker}
use Rattle.ol_reduce.specs.Offered.{HasOffered}
use Rattle.ol_reduce.specs.Started.{HasStarted}
use Rattle.ol_reduce.specs.Worked.{HasWorked, HasWorkedToQuiet, HasWorkedToSpent}
use Rattle.ol_reduce.specs.Working.{ClaimsGiven, PutsPublished, spent_cell}

-- its seat is one of those that were made for this table
abbrev pub IsSeated : TableState → Worker → Type 0
IsSeated b w = IsSeatOf b w.seat × (w.seat.view.holds ≡ 1)

-- and its number is that of its hand, which is of this pool and put the start cells of its number
abbrev pub IsWorker : TableState → PoolState → Worker → Type 0
IsWorker b p w = IsSeated b w × (w.number ≡ w.hand.number) × HasStarted p b.plan.parts.cells w.hand

-- such is the worker that has its cache lines for itself
abbrev pub IsPadded : (Worker → Type 0) → CachePadded Worker → Type 0
IsPadded Is padded = Is (padded_value padded)

-- its work is done: it found that no active pair is left, or that the fuel is used up
abbrev pub IsEnded : TableState → Worker → Type 0
IsEnded b w = IsSeated b w × (w.is_quiet ≡ true → w.seat.view.settled ≡ true)
    × (w.is_quiet ≡ false → w.seat.view.over ≡ true)

-- its seat is of this table and its hand of this pool, which is for the cells of the table
abbrev pub IsAtWork : TableState → PoolState → Worker → Type 0
IsAtWork b p w = IsSeatOf b w.seat × IsOfPool w.hand p × (p.cells ≡ cells_of b.plan.parts)

-- it made a turn on cell c, and offered to the pool the cells in which that turn published a pair, and cell c if the turn
-- answered Spent
pub record HasTurnedOn (b : TableState) (v : Worker) (c : ℕ) (spent : Bool) (n : Worker) : Type 0 where
  pub seat : IsSeatOf b n.seat
  pub number : n.number ≡ v.number
  pub holds : n.seat.view.holds ≡ v.seat.view.holds
  pub claimed : n.seat.view.claimed ≡ v.seat.view.claimed ++ c ∷ []
  pub cells : List ℕ
  pub published : n.seat.view.published ≡ v.seat.view.published ++ cells
  pub offered : HasOffered v.hand (spent_cell spent n.seat ++ cells) n.hand

-- what stays through all that a worker does, and what its seat and its hand tell of each other; `spent` tells whether its
-- last turn answered Spent
pub record HasKept (b : TableState) (p : PoolState) (v : Worker) (spent : Bool) (n : Worker) : Type 0 where
  pub seat : IsSeatOf b n.seat
  pub hand : IsOfPool n.hand p
  pub number : n.number ≡ v.number
  pub holds : n.seat.view.holds ≡ v.seat.view.holds
  pub refused : v.hand.refused ≤ n.hand.refused
  pub claimed : ClaimsGiven v.seat v.hand n.seat n.hand
  pub put : PutsPublished v.seat v.hand spent n.seat n.hand

-- it asked whether no active pair is left, and ends where that is so
abbrev pub HasAsked : SeatState → Option End → SeatState → Type 0
HasAsked v None n = (word : ℕ) × HasListened v.view word false n.view
HasAsked v (Some Quiet) n = (word : ℕ) × HasListened v.view word true n.view
HasAsked v (Some Spent) n = ⊥

-- it made turns, and the last one answered Spent or none did
abbrev pub Goes : TableState → SeatState → Bool → SeatState → Type 0
Goes b v false n = HasWorked b.plan.parts v.view n.view
Goes b v true n = HasWorkedToSpent b v n

-- it goes on, or it ended, after such work
abbrev pub GoesOn : TableState → SeatState → Option End → Worker → Type 0
GoesOn b v None n = HasWorked b.plan.parts v.view n.seat.view
GoesOn b v (Some Quiet) n = HasWorkedToQuiet b v n.seat × (n.hand.missed ≡ true)
GoesOn b v (Some Spent) n = HasWorkedToSpent b v n.seat
