-- Private: the row of shapes that the values are held in.
use Rattle.std.specs.Prelude.{◌≡◌, ℕ, suc, ◌<◌, List, [], ◌∷◌, length, slice_index_or}
use Rattle.ol_context.specs.Contexts.{empty}
use Rattle.ol_context.specs.declared.arena.Shape.{Shape}
use Rattle.ol_context.specs.declared.arena.Shape.TheVariants as shape
use Rattle.ol_context.specs.Shapes.{IsBelow}

-- each shape's parts are below its number
abbrev pub IsRow : ℕ → List Shape → Type 0
IsRow n [] = Unit {0}
IsRow n (s ∷ ss) = IsBelow n s × IsRow (suc n) ss

-- no shape stands twice, and none is that of the empty value, which has number 0
abbrev pub AreOnce : List Shape → Type 0
AreOnce ss = ((j k : ℕ) (d : Shape) → j < length ss → k < length ss →
    slice_index_or ss j d ≡ slice_index_or ss k d → j ≡ k)
    × ((k : ℕ) (d : Shape) → k < length ss → slice_index_or ss k d ≡ shape.Empty → ⊥)
