-- The fewest family steps by which a labelled term is reduced to a normal form, and leftmost reduction
-- (Lévy, Optimal reductions in the lambda-calculus, 1980).
use Rattle.std.specs.Prelude.{◌≡◌, ℕ, ◌≤◌, List}
use Rattle.ol_beta.specs.Leftmost.{IsNormal}
use Rattle.ol_law_optimality.specs.Steps.{steps_of}
use Rattle.ol_law_meaning.specs.Shows.{LeftmostReduces}
use Rattle.ol_law_optimality.specs.Labels.{Label, Labelled, erased, LeftmostContracts}
use Rattle.ol_term.specs.Trees.{Tree}
use Rattle.ol_law_optimality.specs.Families.{HaveOwnLetters}
use Rattle.ol_law_optimality.specs.HeadFamilies.{HasSoManyDifferent}
use Rattle.ol_law_optimality.specs.Demand.{AreSoManyOf}
use Rattle.ol_law_optimality.specs.Reductions.{NoFamilyReductionIsShorter, FamilyReductionOfLength}

-- Let each subterm of a term have a letter of its own, and let leftmost reduction lead to a normal
-- form. If no reduction to a normal form by family steps has fewer than n, then n is the number of some different
-- degrees that leftmost reduction contracts.
abbrev pub FewestAreFamilies : Type 0
FewestAreFamilies = (T v : Labelled) (ws : List Label) → HaveOwnLetters T →
    LeftmostContracts T ws v → IsNormal (erased v) → (n : ℕ) →
    NoFamilyReductionIsShorter IsNormal T n → AreSoManyOf n ws

-- And if one has just n, it is the number of all these degrees.
abbrev pub FewestAreAllFamilies : Type 0
FewestAreAllFamilies = (T v : Labelled) (ws : List Label) → HaveOwnLetters T →
    LeftmostContracts T ws v → IsNormal (erased v) → (n : ℕ) →
    NoFamilyReductionIsShorter IsNormal T n → FamilyReductionOfLength IsNormal T n →
    HasSoManyDifferent ws n

-- So n is no more than the number of redexes that leftmost reduction contracts.
abbrev pub FewestIsFrugal : Type 0
FewestIsFrugal = (t v : Tree) (r : LeftmostReduces t v) → IsNormal v → (n : ℕ) →
    ((T : Labelled) → erased T ≡ t → HaveOwnLetters T → NoFamilyReductionIsShorter IsNormal T n) →
    n ≤ steps_of r
