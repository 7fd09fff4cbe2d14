-- What a step hands to a replacement: the nodes that come and the joins, as lists, where f acts on g.
use Rattle.std.specs.Prelude.{ℕ, zero, suc, List, [], ◌++◌}

-- what `rows` has at 0 to n - 1
abbrev pub each : {X : Type 0} → ℕ → (ℕ → List X) → List X
each zero rows = []
each (suc n) rows = each n rows ++ rows n
