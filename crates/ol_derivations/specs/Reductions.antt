-- Several beta steps from a term to another.
use Rattle.std.specs.Prelude.{◌≡◌, ℕ, zero, suc, ◌+◌, ◌≤◌, if◌then◌else◌, List, [], ◌∷◌, ◌++◌, map, Option, Some, None}
use Rattle.std.specs.List.{sum_by}
use Rattle.ol_term.specs.Trees.{Tree, var, free, lam, app}
use Rattle.ol_beta.specs.Beta.{contracted, IsWithin}
use Rattle.ol_beta.specs.Leftmost.{is_abstraction}

-- so many beta steps, of whatever redexes, lead from t to u
abbrev pub LeadsBy : ℕ → (t u : Tree) → Type 0
LeadsBy zero t u = t ≡ u
LeadsBy (suc n) t u = (at : List ℕ) × (s : Tree) × (contracted t at ≡ Some s) × LeadsBy n s u

-- ---- how far is searched

-- the addresses of all redexes, in preorder
abbrev pub redexes : Tree → List (List ℕ)
redexes (var k) = []
redexes (free k) = []
redexes (lam b) = map (λ at. 0 ∷ at) (redexes b)
redexes (app f a) = (if is_abstraction f then [] ∷ [] else [])
    ++ (map (λ at. 1 ∷ at) (redexes f) ++ map (λ at. 2 ∷ at) (redexes a))

-- one more than this number of a term, where there is one
abbrev pub one_and : (Tree → ℕ) → Option Tree → ℕ
one_and f None = 0
one_and f (Some s) = 1 + f s

-- how many reductions of 1 to n steps a term has
abbrev pub reductions : ℕ → Tree → ℕ
reductions zero t = 0
reductions (suc n) t = sum_by (λ at. one_and (reductions n) (contracted t at)) (redexes t)

-- each term to which at most n steps lead is within bounds
abbrev pub StaysWithin : ℕ → Tree → Type 0
StaysWithin zero t = Unit {0}
StaysWithin (suc n) t = (at : List ℕ) (s : Tree) → contracted t at ≡ Some s →
    IsWithin s × StaysWithin n s

-- the most steps, and the most reductions, that are looked at
abbrev pub most_told_steps : ℕ
most_told_steps = 5

abbrev pub most_reductions : ℕ
most_reductions = 1000

-- All reductions of fewer than k steps are looked at: there aren't more, and each leads to a term within bounds.
abbrev pub IsSeen : ℕ → Tree → Type 0
IsSeen zero t = Unit {0}
IsSeen (suc n) t = (reductions n t ≤ most_reductions) × StaysWithin n t

-- ---- what is told

-- k is the least number of steps that lead from t to u, and more than one. All shorter reductions of t are looked at.
pub record AreSteps (t u : Tree) (k : ℕ) : Type 0 where
  pub several : 2 ≤ k
  pub few : k ≤ most_told_steps
  pub reduction : LeadsBy k t u
  pub shortest : (j : ℕ) → LeadsBy j t u → k ≤ j
  pub seen : IsSeen k t

-- no number of steps is told
abbrev pub AreNoSteps : (t u : Tree) → Type 0
AreNoSteps t u = (k : ℕ) → AreSteps t u k → ⊥
