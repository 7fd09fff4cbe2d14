-- Normal forms that are found within so many steps.
use Rattle.std.specs.Prelude.{◌≢◌, ℕ, List}
use Rattle.ol_term.specs.Trees.{Tree}
use Rattle.ol_beta.specs.Verdicts.{IsNormalForm}

-- leftmost reduction leads to v, a normal form, by at most so many steps, and each term on the way is within bounds
abbrev pub ReducesTo : ℕ → (t v : Tree) → Type 0
ReducesTo most t v = (road : List (List ℕ)) × IsNormalForm t most road v

-- the most leftmost steps
abbrev pub most_leftmost : ℕ
most_leftmost = 1000

-- so it leads from two terms to two normal forms
pub record DifferInNormalForm (most : ℕ) (t u : Tree) : Type 0 where
  pub first : Tree
  pub second : Tree
  pub of_first : ReducesTo most t first
  pub of_second : ReducesTo most u second
  pub differ : first ≢ second
