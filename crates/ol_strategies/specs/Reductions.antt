-- Reduction in an order, step by step.
use Rattle.std.specs.Prelude.{◌≡◌, ℕ, zero, suc, List, Some}
use Rattle.ol_term.specs.Trees.{Tree}
use Rattle.ol_beta.specs.Beta.{contracted}
use Rattle.ol_strategies.specs.Redexes.{next}
use Rattle.ol_strategies.specs.declared.orders.Order.{Order}

-- a step in an order: contraction of the redex that is next
abbrev pub IsStep : Order → Tree → Tree → Type 0
IsStep order t u = (at : List ℕ) × (next order t ≡ Some at) × (contracted t at ≡ Some u)

-- so many steps in an order lead from one term to another
abbrev pub Leads : Order → ℕ → Tree → Tree → Type 0
Leads order zero t u = t ≡ u
Leads order (suc n) t u = (v : Tree) × IsStep order t v × Leads order n v u
