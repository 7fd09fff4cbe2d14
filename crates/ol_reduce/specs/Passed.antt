-- Private: the round of a worker over all cells, and which of them a part of it passes.
use Rattle.std.specs.Prelude.{◌≡◌, ℕ, ◌+◌, ◌%◌, ◌≤◌, min, Bool, true, false, List, [], ◌∷◌, ◌++◌}
use Rattle.ol_rules.specs.Listed.{each}
use Rattle.ol_reduce.specs.declared.workers.Worker.{Worker}

-- so many cells of a round over all cells, from this one on; behind the last comes the first
abbrev pub round_from : (cells first count : ℕ) → List ℕ
round_from cells first count = each count (λ k. ((first + k) % cells) ∷ [])

-- the worker made turns on so many cells of its round, in their order, and the next one is the one behind them
abbrev pub HasPassed : (cells first next count : ℕ) → Worker → Worker → Type 0
HasPassed cells first next count v n =
    (n.seat.view.claimed ≡ v.seat.view.claimed ++ round_from cells first count)
    × (next % cells ≡ (first + count) % cells)

-- it passed 64 cells, or as many as there are; or, where a turn answered Spent, no more than those
abbrev pub GoesRound : (cells first next : ℕ) → Worker → Bool → Worker → Type 0
GoesRound cells first next v false n = HasPassed cells first next (min cells 64) v n
GoesRound cells first next v true n =
    (count : ℕ) × (count ≤ min cells 64) × HasPassed cells first next count v n
