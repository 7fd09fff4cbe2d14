-- What is asked of a frame.
use Rattle.std.specs.Prelude.{ℕ, zero, suc, List, [], ◌∷◌, ◌++◌}
use Rattle.ol_context.specs.Contexts.{Level, empty, o, Context, levels}

-- o n times before a value
abbrev pub os : ℕ → Level → Level
os zero v = v
os (suc n) v = o (os n v)

-- The question for n abstractions: the frame's levels, then n times o before empty, then empty levels.
abbrev pub asked : List Level → ℕ → Context
asked ls n = levels (ls ++ os n empty ∷ [])
