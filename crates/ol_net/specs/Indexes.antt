-- The indexes that a net's nodes have
use Rattle.std.specs.Prelude.{◌≡◌, ℕ, ◌+◌, ◌≤◌, max, true, List, [], ◌∷◌, length, Option, None, Some}
use Rattle.ol_net.specs.declared.parts.Kind.{Kind}
use Rattle.ol_net.specs.Parts.{is_eraser}
use Rattle.ol_net.specs.Graph.{kind_at}

-- the greatest index of a live node, or 0 where there is none
abbrev pub top_index_of : List (Option (Kind × ℕ)) → ℕ
top_index_of [] = 0
top_index_of (None ∷ nodes) = top_index_of nodes
top_index_of (Some k ∷ nodes) = max k.1 (top_index_of nodes)

-- A net begins with indexes of at most 100,000,000, the greatest `top` of `build_to`, and each node
-- born may raise the greatest by one. An eraser has index 0.
pub record HasIndexes (nodes : List (Option (Kind × ℕ))) : Type 0 where
  pub top : top_index_of nodes ≤ 100000000 + length nodes
  pub erasers : (x : ℕ) (k : Kind × ℕ) → kind_at nodes x ≡ Some k → is_eraser k.0 ≡ true → k.1 ≡ 0
