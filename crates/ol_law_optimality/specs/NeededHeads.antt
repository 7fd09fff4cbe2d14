-- Call-by-need (Lévy, Optimal reductions in the lambda-calculus, 1980) for the first heads of a term's Böhm tree.
use Rattle.std.specs.Prelude.{◌≡◌, ℕ, ◌≤◌, ◌⊎◌, List, Some, length}
use Rattle.ol_beta.specs.Leftmost.{leftmost}
use Rattle.ol_law_edges.specs.Edges.{IsIn}
use Rattle.ol_law_optimality.specs.Families.{labels_in, IsLetter}
use Rattle.ol_law_optimality.specs.Labels.{Label, Labelled, erased, degree}
use Rattle.ol_law_optimality.specs.FirstHeads.{HasFirstHeads}
use Rattle.ol_law_optimality.specs.LevysTheorem.{IsNeededFor, NeededFamilies}
use Rattle.ol_law_optimality.specs.Reductions.{FamilyReduces, WholeFamilies}

-- What is needed for so many heads after whole families were contracted was needed before.
abbrev pub NeedForHeadsGoesBack : Type 0
NeedForHeadsGoesBack = (heads : ℕ) (T U : Labelled) (ds : List Label) → WholeFamilies T ds U →
    (d : Label) → IsNeededFor (HasFirstHeads heads) U d → IsNeededFor (HasFirstHeads heads) T d

-- So call-by-need is never longer than a reduction by families to so many heads,
abbrev pub CallByNeedIsFewestForHeads : Type 0
CallByNeedIsFewestForHeads = (heads : ℕ) (T V W : Labelled) (ds cs : List Label) →
    NeededFamilies (HasFirstHeads heads) T ds V → ((w : Label) → IsIn w (labels_in T) → IsLetter w) →
    FamilyReduces T cs W → HasFirstHeads heads (erased W) → length ds ≤ length cs

-- and until they are there it can go on: the leftmost redex is needed. So it comes to so many heads, if a reduction by
-- families does.
abbrev pub CallByNeedGoesOnForHeads : Type 0
CallByNeedGoesOnForHeads = (heads : ℕ) (T : Labelled) → HasFirstHeads heads (erased T)
    ⊎ ((at : List ℕ) × (d : Label) × (leftmost (erased T) ≡ Some at) × (degree T at ≡ Some d)
    × IsNeededFor (HasFirstHeads heads) T d)
