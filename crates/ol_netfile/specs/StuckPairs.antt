-- The stuck pairs of a net whose nodes are numbers, and their lines.
use Rattle.std.specs.Prelude.{◌≡◌, ℕ, ◌<◌, ◌↔◌, List, ◌++◌, map, codes}
use Rattle.std.specs.Fmt.{decimal}
use Rattle.std.specs.List.{flat_map}
use Rattle.std.specs.List.Sorted.{IsStrictlyIncreasing}
use Rattle.ol_law_edges.specs.Edges.{IsIn}
use Rattle.ol_net.specs.Nets.{NamedNet}
use Rattle.ol_net.specs.Pairs.{IsStuck}

abbrev pub pair_line : ℕ × ℕ → List ℕ
pair_line p = codes "pair " ++ (decimal p.0 ++ (codes " " ++ (decimal p.1 ++ codes "\n")))

-- the lines of all stuck pairs, each once with its smaller number first, in ascending order of these
pub record IsPairsText (N : NamedNet ℕ) (text : List ℕ) : Type 0 where
  pub pairs : List (ℕ × ℕ)
  pub all : (a b : ℕ) → IsIn (a, b) pairs ↔ ((a < b) × IsStuck N a b)
  pub ascend : IsStrictlyIncreasing (map (λ (p : ℕ × ℕ). p.0) pairs)
  pub written : text ≡ flat_map pair_line pairs
