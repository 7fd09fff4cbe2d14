-- How many families of redexes leftmost reduction of a term contracts (Lévy, Réductions correctes et optimales dans le
-- lambda-calcul, 1978): the number of different degrees, where each subterm of the term has a letter of its own.
use Rattle.std.specs.Prelude.{◌≡◌, ℕ, ◌<◌, ◌≤◌, ◌⊎◌, Bool, true, false, List, [], ◌∷◌, ◌++◌, length, Some, None, IsSome}
use Rattle.ol_term.specs.Trees.{Tree}
use Rattle.ol_beta.specs.Beta.{IsWithin, IsPast}
use Rattle.ol_beta.specs.Leftmost.{leftmost}
use Rattle.ol_law_optimality.specs.Labels.{Label, Labelled, erased, degree, contracted, LeftmostContracts, ready, contract}
use Rattle.ol_law_optimality.specs.Families.{HaveOwnLetters}
use Rattle.ol_law_optimality.specs.HeadFamilies.{HasSoManyDifferent}
use Rattle.ol_families.specs.Letters.{letters_in, letters_of, most_letters}

-- a labelled term within bounds, of size and depth, and of the letters of its labels
abbrev pub IsShortLabelled : Labelled → Type 0
IsShortLabelled t = IsWithin (erased t) × (letters_in t ≤ most_letters)

-- a labelled term out of these bounds
abbrev pub IsLongLabelled : Labelled → Type 0
IsLongLabelled t = IsPast (erased t) ⊎ (most_letters < letters_in t)

-- each term of a reduction is within bounds, the first and the last one too
abbrev pub AreShortLabelled : {t v : Labelled} {ds : List Label} → LeftmostContracts t ds v → Type 0
AreShortLabelled (ready {t = t}) = IsShortLabelled t
AreShortLabelled (contract {t = t} at l d c r) = IsShortLabelled t × AreShortLabelled r

-- Leftmost reduction of a term each of whose subterms has a letter of its own, by at most so many steps, to a labelled
-- term; and the degrees of the redexes that it contracts. Each term, and the degrees, are within bounds.
pub record ReducesLabelled (t : Tree) (most : ℕ) (ds : List Label) (v : Labelled) : Type 0 where
  pub start : Labelled
  pub is : erased start ≡ t
  pub own : HaveOwnLetters start
  pub reduction : LeftmostContracts start ds v
  pub made : length ds ≤ most
  pub short : AreShortLabelled reduction
  pub few : letters_of ds ≤ most_letters

-- Why such a reduction is cut: all steps were made and a redex is left; or the next step leads to a term out of bounds,
-- or gives the degrees of all steps too many letters.
pub data IsCut (most : ℕ) (ds : List Label) (v : Labelled) : Type 0 where
  all_made : length ds ≡ most → IsSome (leftmost (erased v)) → IsCut most ds v
  too_large : {at : List ℕ} {d : Label} {u : Labelled} → leftmost (erased v) ≡ Some at → degree v at ≡ Some d →
      contracted v at ≡ Some u → IsLongLabelled u ⊎ (most_letters < letters_of (ds ++ d ∷ [])) → IsCut most ds v

-- How many families leftmost reduction contracts within bounds, which is the number of different degrees; and whether
-- it has ended, in a normal form. Else it is cut.
pub data IsFamilyCount (t : Tree) (most : ℕ) : ℕ → Bool → Type 0 where
  ended : {ds : List Label} {v : Labelled} {n : ℕ} → ReducesLabelled t most ds v → leftmost (erased v) ≡ None →
      HasSoManyDifferent ds n → IsFamilyCount t most n true
  cut : {ds : List Label} {v : Labelled} {n : ℕ} → ReducesLabelled t most ds v → IsCut most ds v →
      HasSoManyDifferent ds n → IsFamilyCount t most n false

-- A term has one count, whichever letters its subterms have.
abbrev pub FamilyCountIsOne : Type 0
FamilyCountIsOne = (t : Tree) (most n m : ℕ) (a b : Bool) → IsFamilyCount t most n a →
    IsFamilyCount t most m b → (n ≡ m) × (a ≡ b)
