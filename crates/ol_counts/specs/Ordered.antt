-- How many steps an order of reduction makes to its end, where each term is within bounds.
use Rattle.std.specs.Prelude.{◌≡◌, ℕ, zero, suc, ◌≤◌, Bool, true, false, None, IsSome}
use Rattle.ol_term.specs.Trees.{Tree}
use Rattle.ol_beta.specs.Beta.{IsWithin, IsPast}
use Rattle.ol_strategies.specs.Redexes.{next}
use Rattle.ol_strategies.specs.Reductions.{IsStep}
use Rattle.ol_strategies.specs.declared.orders.Order.{Order}

-- so many steps in an order lead from one term to another, each from a term within bounds
abbrev pub LeadsWithin : Order → ℕ → Tree → Tree → Type 0
LeadsWithin order zero t u = t ≡ u
LeadsWithin order (suc n) t u = IsWithin t × ((v : Tree) × (IsStep order t v × LeadsWithin order n v u))

-- How many steps an order makes from a term, at most `most`, and whether it has ended, each term within
-- bounds. It is cut if all steps were made and a redex is left, or if the last step, or step 0, which is
-- the term itself, gives a term out of bounds.
pub data IsOrderCount (order : Order) (t : Tree) (most : ℕ) : ℕ → Bool → Type 0 where
  ended : {n : ℕ} (u : Tree) → n ≤ most → LeadsWithin order n t u → IsWithin u →
      next order u ≡ None → IsOrderCount order t most n true
  short : (u : Tree) → LeadsWithin order most t u → IsWithin u → IsSome (next order u) →
      IsOrderCount order t most most false
  past : {n : ℕ} (u : Tree) → n ≤ most → LeadsWithin order n t u → IsPast u →
      IsOrderCount order t most n false

-- an order has one count
abbrev pub CountIsOne : Type 0
CountIsOne = (order : Order) (t : Tree) (most n m : ℕ) (a b : Bool) → IsOrderCount order t most n a →
    IsOrderCount order t most m b → (n ≡ m) × (a ≡ b)
