-- What several turns of a seat leave, one after the other.
use Rattle.std.specs.Prelude.{◌≡◌, ◌≢◌, ◌<◌, ℕ, List, [], ◌∷◌, ◌++◌}
use Rattle.ol_rules.specs.Listed.{each}
use Rattle.ol_wire.specs.declared.layout.Parts.{Parts}
use Rattle.ol_wire.specs.declared.turn.Turn.{Turn}
use Rattle.ol_wire.specs.declared.turn.Turn.TheVariants.{Spent}
use Rattle.ol_wire.specs.declared.view.View.{View}
use Rattle.ol_wire.specs.Layout.{cells_of}
use Rattle.ol_wire.specs.Turns.{HasCause, Leaves}
use Rattle.ol_wire.specs.Stand.{TableState}

-- the cells below n, in order
abbrev pub cells_below : ℕ → List ℕ
cells_below n = each n (λ c. c ∷ [])

-- One turn on cell c of a table with these parts led from v to n and answered t: n shows the cause
-- of this answer, and is what it leaves of v.
pub record IsTurn (z : Parts) (v : View) (c : ℕ) (t : Turn) (n : View) : Type 0 where
  pub within : c < cells_of z
  pub cause : HasCause t n
  pub leaves : Leaves z v c t n

-- Turns on these cells, one after the other, led from v to n, and none of them answered Spent.
abbrev pub HasTurned : Parts → View → List ℕ → View → Type 0
HasTurned z v [] n = n ≡ v
HasTurned z v (c ∷ cells) n = (m : View) × (t : Turn) × IsTurn z v c t m × (t ≢ Spent) × HasTurned z m cells n

-- Such turns led from v to a view between, and then one on c, which answered Spent, to n.
abbrev pub HasSpent : Parts → View → List ℕ → ℕ → View → Type 0
HasSpent z v cells c n = (m : View) × HasTurned z v cells m × IsTurn z m c Spent n

-- Turns claim their cells, in order.
abbrev pub TurnsTell : Type 0
TurnsTell = (z : Parts) (v n : View) (cells : List ℕ) → HasTurned z v cells n → n.claimed ≡ v.claimed ++ cells

-- Turns on all cells in order led from v to n, and none of them answered Spent; or one of them did, the last one.
abbrev pub HasSwept : TableState → View → View → Type 0
HasSwept b v n = HasTurned b.plan.parts v (cells_below (cells_of b.plan.parts)) n

abbrev pub HasSweptToSpent : TableState → View → View → Type 0
HasSweptToSpent b v n = (c : ℕ) × HasSpent b.plan.parts v (cells_below c) c n
