-- Which nodes of two nets have met.
use Rattle.std.specs.Prelude.{◌≡◌, ℕ, Bool, true, false, List, length, Option, None, Some, is_some}
use Rattle.std.specs.Prelude.{slice_index_or, count_by, ◌↔◌, ◌+◌, ◌*◌, ◌<◌}
use Rattle.ol_law_edges.specs.Edges.{IsIn}
use Rattle.ol_net.specs.declared.parts.Kind.{Kind}
use Rattle.ol_net.specs.declared.parts.Port.{Port}
use Rattle.ol_net.specs.Graph.{Graph}
use Rattle.ol_net.specs.Nets.{HasNode}
use Rattle.ol_net.specs.Numbered.{net_of}
use Rattle.ol_orders.specs.declared.comparing.Met.{Met}
use Rattle.ol_orders.specs.Same.{GoesOn, Walks, pair_at, port_on}

-- whom a node has met, by a table
abbrev pub met_by : List (Option ℕ) → ℕ → Option ℕ
met_by table x = slice_index_or table x None

-- the tables tell the pairs
pub record TellPairs (pairs : List (ℕ × ℕ)) (there back : List (Option ℕ)) : Type 0 where
  pub there_tells : (x y : ℕ) → (met_by there x ≡ Some y) ↔ IsIn (x, y) pairs
  pub back_tells : (x y : ℕ) → (met_by back y ≡ Some x) ↔ IsIn (x, y) pairs
  pub count : length pairs ≡ count_by is_some there

-- the tables of these nets
pub record AreTables (a b : Graph) (met : Met) : Type 0 where
  pub tell : TellPairs met.pairs.items met.there.items met.back.items
  pub there_size : length met.there.items ≡ length a.nodes
  pub back_size : length met.back.items ≡ length b.nodes

-- the answer to whether a step may be: what there is after it, or that there is none
abbrev pub Answers : (List (ℕ × ℕ) → Type 0) → Bool → List (ℕ × ℕ) → Type 0
Answers Step true met' = Step met'
Answers Step false met' = (m : List (ℕ × ℕ)) → Step m → ⊥

-- What a walk from a place on found: the ports of the two nets where it stopped, or None where it
-- came to its end.
abbrev pub Finds : Graph → Graph → ℕ → List (ℕ × ℕ) → Option (Port × Port) → List (ℕ × ℕ) → Type 0
Finds a b from had None met = Walks a b from had (a.free + 3 * length met) met
Finds a b from had (Some p) met = (at : ℕ) × (m : List (ℕ × ℕ)) × Walks a b from had at m
    × (at < a.free + 3 * length m) × ((m' : List (ℕ × ℕ)) → GoesOn a b m at m' → ⊥)
    × (p.0 ≡ port_on a.free (pair_at a.free m at).0 at) × (p.1 ≡ port_on a.free (pair_at a.free m at).1 at)

-- each node of the net has met one, by its table
abbrev pub EachMet : Graph → List (Option ℕ) → Type 0
EachMet g table = (x : ℕ) (k : Kind) (i : ℕ) → HasNode (net_of g) x k i → (y : ℕ) × (met_by table x ≡ Some y)

-- each node of either net has met one of the other
pub record AllMeet (a b : Graph) (met : List (ℕ × ℕ)) : Type 0 where
  pub first : (x : ℕ) (k : Kind) (i : ℕ) → HasNode (net_of a) x k i → (y : ℕ) × IsIn (x, y) met
  pub second : (y : ℕ) (k : Kind) (i : ℕ) → HasNode (net_of b) y k i → (x : ℕ) × IsIn (x, y) met
