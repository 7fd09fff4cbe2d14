-- No way of contracting redexes of one family at once brings a term to its normal form by fewer steps
-- than there are families that leftmost reduction contracts (Lévy): the laws.
use Rattle.std.specs.Prelude.{◌≡◌, ℕ, ◌≤◌, List, [], ◌∷◌, Some, length, ◌↔◌}
use Rattle.ol_beta.specs.Leftmost.{leftmost, IsNormal}
use Rattle.ol_law_edges.specs.Edges.{IsIn}
use Rattle.ol_law_meaning.specs.Shows.{IsHeadNormal}
use Rattle.ol_law_optimality.specs.Labels.{Label, Labelled, erased, degree, LeftmostContracts}
use Rattle.ol_law_optimality.specs.Families.{labels_in, IsLetter}
use Rattle.ol_law_optimality.specs.Readings.{AreDifferent, HeadReduces}
use Rattle.ol_law_optimality.specs.Reductions.{Contracts, FamilyStep, FamilyReduces, Parallel, WholeFamily}
use Rattle.ol_law_optimality.specs.Reductions.{WholeFamilies, LeftmostFamilies, HeadFamilies}
use Rattle.ol_term.specs.Trees.{Tree}

-- A degree is needed for a sort of terms, as for normal forms, where each reduction to a term of this
-- sort contracts it: of whatever redexes, in whatever order.
abbrev pub IsNeededFor : (Tree → Type 0) → Labelled → Label → Type 0
IsNeededFor Goal T d =
    (V : Labelled) (us : List Label) → Contracts T us V → Goal (erased V) → IsIn d us

-- Each degree that leftmost reduction contracts is needed, whatever the labels of the first term are.
abbrev pub EachDegreeIsNeeded : Type 0
EachDegreeIsNeeded = (T v : Labelled) (ws : List Label) → LeftmostContracts T ws v →
    (d : Label) → IsIn d ws → IsNeededFor IsNormal T d

-- Each degree that head reduction contracts, every reduction to a head normal form contracts.
abbrev pub EachHeadDegreeIsNeeded : Type 0
EachHeadDegreeIsNeeded = (T v V : Labelled) (ds us : List Label) → HeadReduces T ds v →
    Contracts T us V → IsHeadNormal (erased V) → (d : Label) → IsIn d ds → IsIn d us

-- So a needed degree is that of one of the steps of each family reduction to a normal form.
abbrev pub NeededAreContracted : Type 0
NeededAreContracted = (T V : Labelled) (ds : List Label) → FamilyReduces T ds V →
    IsNormal (erased V) → (d : Label) → IsNeededFor IsNormal T d → IsIn d ds

-- And so no family reduction to a normal form has fewer steps than leftmost reduction contracts
-- different degrees.
abbrev pub NoneIsShorter : Type 0
NoneIsShorter = (T v V : Labelled) (ws ds : List Label) → LeftmostContracts T ws v →
    FamilyReduces T ds V → IsNormal (erased V) →
    (es : List Label) → AreDifferent es → ((e : Label) → IsIn e es → IsIn e ws) →
    length es ≤ length ds

-- ---- what family steps are

-- Redexes of one degree that are contracted at once, any set of them, make a family step,
abbrev pub AtOnceIsOneStep : Type 0
AtOnceIsOneStep = (d : Label) (t u : Labelled) → Parallel (λ v. v ≡ d) t u → FamilyStep d t u

-- so each family can be contracted as a whole, in one way.
abbrev pub WholeFamilyIsOne : Type 0
WholeFamilyIsOne = (d : Label) (t : Labelled) →
    (u : Labelled) × WholeFamily d t u × FamilyStep d t u
    × ((v : Labelled) → WholeFamily d t v → v ≡ u)

-- Before a family step and after it, contracting the whole family leads to one term: the step is a
-- part of it.
abbrev pub FamilyStepsDevelop : Type 0
FamilyStepsDevelop = (d : Label) (t u v : Labelled) → FamilyStep d t u → WholeFamily d t v →
    WholeFamily d u v

-- A reduction by whole families is one by families,
abbrev pub WholeFamiliesAreFamilies : Type 0
WholeFamiliesAreFamilies = (T V : Labelled) (ds : List Label) → WholeFamilies T ds V →
    FamilyReduces T ds V

-- and one by leftmost or by head families is one by whole families.
abbrev pub LeftmostFamiliesAreWhole : Type 0
LeftmostFamiliesAreWhole = (T V : Labelled) (ds : List Label) → LeftmostFamilies T ds V →
    WholeFamilies T ds V

abbrev pub HeadFamiliesAreWhole : Type 0
HeadFamiliesAreWhole = (T V : Labelled) (ds : List Label) → HeadFamilies T ds V →
    WholeFamilies T ds V

-- ---- the fewest

-- Let each label of a term be a letter. No reduction of it by whole families contracts one twice.
abbrev pub NoFamilyTwice : Type 0
NoFamilyTwice = (T V : Labelled) (ds : List Label) → WholeFamilies T ds V →
    ((w : Label) → IsIn w (labels_in T) → IsLetter w) → AreDifferent ds

-- So a reduction by whole families that contracts none but needed ones is never longer than one by
-- families to a normal form (Lévy).
abbrev pub NeededFamiliesAreFewest : Type 0
NeededFamiliesAreFewest = (T V W : Labelled) (ds cs : List Label) → WholeFamilies T ds V →
    ((d : Label) → IsIn d ds → IsNeededFor IsNormal T d) →
    ((w : Label) → IsIn w (labels_in T) → IsLetter w) →
    FamilyReduces T cs W → IsNormal (erased W) → length ds ≤ length cs

-- Let each label of a term be a letter, and let leftmost reduction lead from it to a normal form.
-- Then whole families, each time that of the leftmost redex, lead there too: no family twice, and
-- just those that leftmost reduction contracts. So there is a family reduction with as many steps
-- as leftmost reduction contracts different degrees, and none has fewer.
abbrev pub FewestIsReached : Type 0
FewestIsReached = (T v : Labelled) (ws : List Label) → LeftmostContracts T ws v →
    IsNormal (erased v) → ((w : Label) → IsIn w (labels_in T) → IsLetter w) →
    (ds : List Label) × LeftmostFamilies T ds v × AreDifferent ds
    × ((d : Label) → IsIn d ds ↔ IsIn d ws)

-- So it is with head reduction, and whole families, each time that of the head redex.
abbrev pub FewestForAHead : Type 0
FewestForAHead = (T v : Labelled) (ds : List Label) → HeadReduces T ds v →
    IsHeadNormal (erased v) → ((w : Label) → IsIn w (labels_in T) → IsLetter w) →
    (es : List Label) × (V : Labelled) × HeadFamilies T es V × IsHeadNormal (erased V)
    × AreDifferent es × ((d : Label) → IsIn d es ↔ IsIn d ds)

-- ---- call-by-need

-- Call-by-need (Lévy): whole families, each time that of some redex that is needed in the term at hand.
pub data NeededFamilies (Goal : Tree → Type 0) : Labelled → List Label → Labelled → Type 0 where
  ready : {t : Labelled} → NeededFamilies Goal t [] t
  contract : {t u v : Labelled} {d : Label} {ds : List Label} (at : List ℕ) →
      degree t at ≡ Some d → IsNeededFor Goal t d → WholeFamily d t u →
      NeededFamilies Goal u ds v → NeededFamilies Goal t (d ∷ ds) v

-- what is needed after whole families were contracted was needed before
abbrev pub NeedGoesBack : Type 0
NeedGoesBack = (T U : Labelled) (ds : List Label) → WholeFamilies T ds U →
    (d : Label) → IsNeededFor IsNormal U d → IsNeededFor IsNormal T d

-- So call-by-need is never longer than a reduction by families to a normal form,
abbrev pub CallByNeedIsFewest : Type 0
CallByNeedIsFewest = (T V W : Labelled) (ds cs : List Label) → NeededFamilies IsNormal T ds V →
    ((w : Label) → IsIn w (labels_in T) → IsLetter w) →
    FamilyReduces T cs W → IsNormal (erased W) → length ds ≤ length cs

-- and as long as a redex is left it can go on: the leftmost redex is needed. So it ends in a normal
-- form, if there is one.
abbrev pub CallByNeedGoesOn : Type 0
CallByNeedGoesOn = (T : Labelled) (at : List ℕ) → leftmost (erased T) ≡ Some at →
    (d : Label) × (degree T at ≡ Some d) × IsNeededFor IsNormal T d
