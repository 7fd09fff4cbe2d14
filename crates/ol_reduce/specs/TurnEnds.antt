-- Private: a turn that found the fuel used up, and any other.
use Rattle.std.specs.Prelude.{◌≢◌, ℕ}
use Rattle.ol_wire.specs.declared.turn.Turn.{Turn}
use Rattle.ol_wire.specs.declared.turn.Turn.TheVariants.{Spent}
use Rattle.ol_wire.specs.declared.view.View.{View}
use Rattle.ol_wire.specs.Stand.{TableState}
use Rattle.ol_reduce.specs.Turned.{IsTurn}

-- one turn on cell c answered Spent, or another answer
abbrev pub IsSpentTurn : TableState → View → ℕ → View → Type 0
IsSpentTurn b v c n = IsTurn b.plan.parts v c Spent n

abbrev pub IsOtherTurn : TableState → View → ℕ → View → Type 0
IsOtherTurn b v c n = (t : Turn) × IsTurn b.plan.parts v c t n × (t ≢ Spent)
