-- Private: weights that don't look at the order of two references.
use Rattle.std.specs.Prelude.{◌≡◌, ℕ}

-- an edge weighs the same from either end
abbrev pub Even : (ℕ → ℕ → ℕ) → Type 0
Even h = (x y : ℕ) → h x y ≡ h y x
