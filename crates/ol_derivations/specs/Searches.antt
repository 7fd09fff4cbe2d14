-- Private: what a search for a reduction of so many steps finds.
use Rattle.std.specs.Prelude.{◌≡◌, ℕ, Bool, true, false, suc, ◌+◌, ◌<◌, List, ◌++◌, map, Option, Some, None}
use Rattle.ol_term.specs.Trees.{Tree}
use Rattle.ol_beta.specs.Beta.{IsWithin}
use Rattle.ol_derivations.specs.Reductions.{LeadsBy, reductions, StaysWithin, AreSteps, AreNoSteps}
use Rattle.ol_derivations.specs.declared.searching.Search.{Search}
use Rattle.ol_derivations.specs.declared.searching.Search.TheVariants.{Found, Missed, Cut}

-- the addresses of a part's redexes, where the part stands at this address
abbrev pub placed : List ℕ → List (List ℕ) → List (List ℕ)
placed at bs = map (λ b. at ++ b) bs

abbrev pub is_cut : Search → Bool
is_cut Found = false
is_cut Missed = false
is_cut Cut = true

-- what is found by one search or by another
abbrev pub first_found : Search → Search → Search
first_found Found s = Found
first_found Missed s = s
first_found Cut s = Cut

-- one step more than n leads from t to u, or doesn't; or more reductions of at most n steps than may be looked at, or a
-- term out of bounds
abbrev pub IsSearched : (t u : Tree) (n before after : ℕ) → Search → Type 0
IsSearched t u n before after Found =
    LeadsBy (suc n) t u × StaysWithin n t × (after + reductions n t ≡ before)
IsSearched t u n before after Missed =
    (LeadsBy (suc n) t u → ⊥) × StaysWithin n t × (after + reductions n t ≡ before)
IsSearched t u n before after Cut = StaysWithin n t → before < reductions n t

-- the same of a term that is looked at itself
abbrev pub IsSearchedTerm : (s u : Tree) (n before after : ℕ) → Search → Type 0
IsSearchedTerm s u n before after Found =
    IsWithin s × LeadsBy (suc n) s u × StaysWithin n s × (after + (1 + reductions n s) ≡ before)
IsSearchedTerm s u n before after Missed =
    IsWithin s × (LeadsBy (suc n) s u → ⊥) × StaysWithin n s × (after + (1 + reductions n s) ≡ before)
IsSearchedTerm s u n before after Cut = IsWithin s → StaysWithin n s → before < 1 + reductions n s

-- the same of the term to which a step leads
pub record IsSearchedBehind (o : Option Tree) (u : Tree) (n before after : ℕ) (r : Search) : Type 0 where
  pub term : Tree
  pub is : o ≡ Some term
  pub searched : IsSearchedTerm term u n before after r

-- how many steps are told
abbrev pub AreStepsFound : (t u : Tree) → Option ℕ → Type 0
AreStepsFound t u (Some k) = AreSteps t u k
AreStepsFound t u None = AreNoSteps t u
