-- What a seat has in hand in the midst of a call: a claimed pair, and what it has read of its nodes.
use Rattle.std.specs.Prelude.{◌≡◌, ℕ, [], ◌∷◌, ◌++◌, Some}
use Rattle.ol_wire.specs.declared.view.View.{View}
use Rattle.ol_wire.specs.Events.{rule_between, IsStuckPair}
use Rattle.ol_wire.specs.Plays.{event_in, swept_on}

-- a claim of cell c, which read `pair.0`, and nothing more
abbrev pub claiming : View → ℕ → ℕ × ℕ → View
claiming v c pair = record v { claimed = v.claimed ++ c ∷ []; last = pair; cell = c }

-- the cell was empty
abbrev pub missed : View → ℕ → View
missed v c = record (claiming v c (0, 0)) { swept = swept_on v c }

-- The pair that was claimed last has no rule, whichever of its nodes acts.
abbrev pub IsStuckLast : View → Type 0
IsStuckLast v = IsStuckPair v.last.0 v.last.1

-- it has one
abbrev pub IsActiveLast : View → Type 0
IsActiveLast v = rule_between (event_in v).f (event_in v).g ≡ Some (event_in v).rule
