-- What a net weighs by its walks.
use Rattle.std.specs.Prelude.{ℕ, zero, suc, ◌+◌, ◌≤◌, List, [], ◌∷◌}
use Rattle.ol_law_edges.specs.Edges.{IsIn}
use Rattle.ol_net.specs.declared.parts.Kind.{Kind}
use Rattle.ol_net.specs.Nets.{NamedNet, slot, HasNode}
use Rattle.ol_law_completeness.specs.Walks.{ComesDown}

-- What a node weighs whose walks come at most n times to a slot 0: 2 to the n, less 1. A step takes
-- away a node of n + 1 and leaves two of n at most; so a weight is a number of steps.
abbrev pub weight : ℕ → ℕ
weight zero = 0
weight (suc n) = suc (weight n + weight n)

-- the sum over a list of nodes with their numbers
abbrev pub weights : {A : Type 0} → List (A × ℕ) → ℕ
weights [] = 0
weights (e ∷ es) = weight e.1 + weights es

-- Each node has a number in the list, and the walks that leave it by its slot 0, with all contexts
-- at once, come to a slot 0 at most so often. The weights of the numbers have a sum of m at most.
pub record WeighsAtMost {A : Type 0} (N : NamedNet A) (m : ℕ) : Type 0 where
  pub numbers : List (A × ℕ)
  pub all : (x : A) (k : Kind) (i : ℕ) → HasNode N x k i →
      (n : ℕ) × IsIn (x, n) numbers × ComesDown N (slot x 0) [] n
  pub sum : weights numbers ≤ m
