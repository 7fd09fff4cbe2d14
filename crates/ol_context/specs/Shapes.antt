-- The level values that a holder has under numbers.
use Rattle.std.specs.Prelude.{◌≡◌, ℕ, ◌<◌, ◌≤◌, List, [], ◌∷◌, length, map, slice_index_or}
use Rattle.ol_context.specs.Contexts.{Level, empty, o, star, pair, Context, levels}
use Rattle.ol_context.specs.declared.arena.Shape.{Shape}
use Rattle.ol_context.specs.declared.arena.Shape.TheVariants as shape

-- the value of a number
abbrev pub value : List Level → ℕ → Level
value vs n = slice_index_or vs n empty

-- the number is one of this holder
abbrev pub IsHeld : List Level → ℕ → Type 0
IsHeld vs n = n < length vs

-- all numbers of a list are of this holder
abbrev pub AreHeld : List Level → List ℕ → Type 0
AreHeld vs [] = Unit {0}
AreHeld vs (n ∷ ns) = IsHeld vs n × AreHeld vs ns

-- n is a number of this holder, and its value is v
pub record IsNumberOf (vs : List Level) (n : ℕ) (v : Level) : Type 0 where
  pub held : IsHeld vs n
  pub is : value vs n ≡ v

-- earlier values stay
pub record Extends (old new : List Level) : Type 0 where
  pub longer : length old ≤ length new
  pub same : (k : ℕ) → IsHeld old k → value new k ≡ value old k

-- the context that a list of numbers stands for
abbrev pub context_of : List Level → List ℕ → Context
context_of vs ns = levels (map (value vs) ns)

-- the value of a shape
abbrev pub level_of_shape : List Level → Shape → Level
level_of_shape vs shape.Empty = empty
level_of_shape vs (shape.O a) = o (value vs a)
level_of_shape vs (shape.Star a) = star (value vs a)
level_of_shape vs (shape.Pair a b) = pair (value vs a) (value vs b)

-- the parts of a shape have smaller numbers than n
abbrev pub IsBelow : ℕ → Shape → Type 0
IsBelow n shape.Empty = Unit {0}
IsBelow n (shape.O a) = a < n
IsBelow n (shape.Star a) = a < n
IsBelow n (shape.Pair a b) = (a < n) × (b < n)
