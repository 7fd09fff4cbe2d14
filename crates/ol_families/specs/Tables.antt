-- Private: the table of the different degrees, and what a row of letters stands for.
use Rattle.std.specs.Prelude.{◌≡◌, ℕ, ◌^◌, ◌<◌, ◌⊎◌, List, [], ◌∷◌, ◌++◌, length, map, Option, Some, None, slice_get}
use Rattle.std.specs.Prelude.{slice_index_or}
use Rattle.std.specs.declared.vec.Vec.{Vec}
use Rattle.std.specs.declared.alloc.Global.{Global}
use Rattle.ol_law_edges.specs.Edges.{IsIn}
use Rattle.ol_law_optimality.specs.Labels.{Label, none, atom, over, under, Labelled}
use Rattle.ol_law_optimality.specs.Labels as labels
use Rattle.ol_law_optimality.specs.Readings.{AreDifferent}
use Rattle.ol_families.specs.Held.{Held, var, free, lam, app}
use Rattle.ol_families.specs.declared.degrees.Letter.{Letter}
use Rattle.ol_families.specs.declared.degrees.Letter.TheVariants.{Own, Over, Under}

-- the label that a row stands for, where the degrees of a table stand for these labels
abbrev pub label_of : List Label → List Letter → Label
label_of ls [] = none
label_of ls (Own n ∷ r) = atom n (label_of ls r)
label_of ls (Over k ∷ r) = over (slice_index_or ls k none) (label_of ls r)
label_of ls (Under k ∷ r) = under (slice_index_or ls k none) (label_of ls r)

abbrev pub labelled : List Label → Held → Labelled
labelled ls (var k w) = labels.var k (label_of ls w)
labelled ls (free k w) = labels.free k (label_of ls w)
labelled ls (lam b w) = labels.lam (labelled ls b) (label_of ls w)
labelled ls (app f a w) = labels.app (labelled ls f) (labelled ls a) (label_of ls w)

-- each degree that a row names is one of the first n
abbrev pub AreKnown : ℕ → List Letter → Type 0
AreKnown n [] = Unit {0}
AreKnown n (Own k ∷ r) = AreKnown n r
AreKnown n (Over k ∷ r) = (k < n) × AreKnown n r
AreKnown n (Under k ∷ r) = (k < n) × AreKnown n r

abbrev pub IsKnown : ℕ → Held → Type 0
IsKnown n (var k w) = AreKnown n w
IsKnown n (free k w) = AreKnown n w
IsKnown n (lam b w) = AreKnown n w × IsKnown n b
IsKnown n (app f a w) = AreKnown n w × IsKnown n f × IsKnown n a

-- what some rows stand for, each by those before it
abbrev pub read : List Label → List (List Letter) → List Label
read ls [] = ls
read ls (r ∷ rs) = read (ls ++ label_of ls r ∷ []) rs

-- what the rows of a table stand for
abbrev pub degrees_of : List (List Letter) → List Label
degrees_of rows = read [] rows

abbrev pub rows_of : List (Vec Letter Global) → List (List Letter)
rows_of rows = map (λ row. row.items) rows

-- a table of different degrees
pub record AreDegrees (rows : List (List Letter)) (ls : List Label) : Type 0 where
  pub few : length rows < 2 ^ 32
  pub many : length ls ≡ length rows
  pub different : AreDifferent ls
  pub known : (k : ℕ) (r : List Letter) → slice_get rows k ≡ Some r → AreKnown (length ls) r
  pub each : (k : ℕ) (r : List Letter) → slice_get rows k ≡ Some r →
      slice_get ls k ≡ Some (label_of ls r)

-- the place of a row among others, or that it isn't there
abbrev pub IsPlace : List (List Letter) → List Letter → Option ℕ → Type 0
IsPlace rows r (Some k) = slice_get rows k ≡ Some r
IsPlace rows r None = (j : ℕ) → slice_get rows j ≡ Some r → ⊥

-- the number of a degree among others, or that it isn't there
abbrev pub IsFound : List Label → Label → Option ℕ → Type 0
IsFound ls d (Some k) = slice_get ls k ≡ Some d
IsFound ls d None = IsIn d ls → ⊥

-- a degree has this number in the table after it, where it stands last if it wasn't there
abbrev pub IsNoted : List Label → Label → ℕ → List Label → Type 0
IsNoted ls d k after =
    ((after ≡ ls) × (slice_get ls k ≡ Some d))
    ⊎ ((IsIn d ls → ⊥) × (after ≡ ls ++ d ∷ []) × (k ≡ length ls))
