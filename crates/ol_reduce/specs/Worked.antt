-- What the work of a seat leaves: turns, and looks at the live word.
use Rattle.std.specs.Prelude.{◌≡◌, ◌≢◌, ℕ, true, false}
use Rattle.ol_wire.specs.declared.layout.Parts.{Parts}
use Rattle.ol_wire.specs.declared.turn.Turn.{Turn}
use Rattle.ol_wire.specs.declared.turn.Turn.TheVariants.{Spent}
use Rattle.ol_wire.specs.declared.view.View.{View}
use Rattle.ol_wire.specs.Turns.{HasListened}
use Rattle.ol_wire.specs.Stand.{TableState, SeatState}
use Rattle.ol_reduce.specs.Turned.{IsTurn}

-- Turns and looks at the live word, one after the other, led from v to n: none of the turns answered Spent, and none of
-- the looks found that all is done.
pub data HasWorked (z : Parts) : View → View → Type 0 where
  rested : {v n : View} → n ≡ v → HasWorked z v n
  turned : {v m n : View} (c : ℕ) (t : Turn) → HasWorked z v m → IsTurn z m c t n → t ≢ Spent → HasWorked z v n
  looked : {v m n : View} (word : ℕ) → HasWorked z v m → HasListened m word false n → HasWorked z v n

-- such work, and then a turn that answered Spent
abbrev pub HasWorkedToSpent : TableState → SeatState → SeatState → Type 0
HasWorkedToSpent b v n = (m : View) × (c : ℕ) × HasWorked b.plan.parts v.view m × IsTurn b.plan.parts m c Spent n.view

-- such work, and then a look that found that all is done
abbrev pub HasWorkedToQuiet : TableState → SeatState → SeatState → Type 0
HasWorkedToQuiet b v n = (m : View) × (word : ℕ) × HasWorked b.plan.parts v.view m × HasListened m word true n.view
