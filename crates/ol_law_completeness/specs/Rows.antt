-- The crossings of a path in a row, and how many pairs of them go up before they go down.
use Rattle.std.specs.Prelude.{ℕ, suc, ◌+◌, List, [], ◌∷◌, ◌⊎◌}
use Rattle.ol_law_edges.specs.Edges.{IsIn}
use Rattle.ol_net.specs.Nets.{NamedNet, NamedPort}
use Rattle.ol_context.specs.Contexts.{Context}
use Rattle.ol_context.specs.Paths.{inward, outward, Path, ends, goes}

-- A node is entered by an auxiliary slot and left by slot 0, or the other way round.
pub data Crossing (A : Type 0) : Type 0 where
  rise : A → Crossing A
  fall : A → Crossing A

-- the crossings of a path, one after another
abbrev pub row : {A : Type 0} {N : NamedNet A} {p : NamedPort A} {c : Context} {q : ℕ}
    {d : Context} →
    Path N p c q d → List (Crossing A)
row (ends l) = []
row (goes {x = x} l h (inward b e) r) = rise x ∷ row r
row (goes {x = x} l h (outward b e) r) = fall x ∷ row r

abbrev pub falls : {A : Type 0} → List (Crossing A) → ℕ
falls [] = 0
falls (rise x ∷ w) = falls w
falls (fall x ∷ w) = suc (falls w)

-- How many pairs of crossings are there, of which the first goes up and a later one down?
abbrev pub inversions : {A : Type 0} → List (Crossing A) → ℕ
inversions [] = 0
inversions (rise x ∷ w) = falls w + inversions w
inversions (fall x ∷ w) = inversions w

-- the row goes down through one of the two nodes
abbrev pub GoesDown : {A : Type 0} → A → A → List (Crossing A) → Type 0
GoesDown f g w = IsIn (fall f) w ⊎ IsIn (fall g) w
