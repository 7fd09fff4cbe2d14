-- A row of shapes, each over the values before it, and the values that it makes.
use Rattle.std.specs.Prelude.{List, [], ◌∷◌, ◌++◌}
use Rattle.ol_context.specs.Contexts.{Level, empty}
use Rattle.ol_context.specs.declared.arena.Shape.{Shape}
use Rattle.ol_context.specs.Shapes.{level_of_shape}

abbrev pub grow : List Level → List Shape → List Level
grow vs [] = vs
grow vs (s ∷ ss) = grow (vs ++ level_of_shape vs s ∷ []) ss

-- number 0 is empty, number k + 1 is shape k
abbrev pub trees : List Shape → List Level
trees ss = grow (empty ∷ []) ss
