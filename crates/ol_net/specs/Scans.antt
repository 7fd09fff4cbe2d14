-- Private: scans of a table, and tables that are put together to a graph.
use Rattle.std.specs.Prelude.{ℕ, Option, MatchOption, ◌<◌, List}
use Rattle.ol_net.specs.Build.{FirstOf, NoneOf}
use Rattle.ol_net.specs.Graph.{Graph}
use Rattle.ol_net.specs.Numbered.{net_of}
use Rattle.ol_net.specs.Pairs.{IsStuck}
use Rattle.ol_net.specs.declared.parts.Kind.{Kind}

-- the answer of a search: the first place of which P holds, or None where it holds of none
abbrev pub FindsFirst : (ℕ → Type 0) → Option ℕ → Type 0
FindsFirst P found = MatchOption found (NoneOf P) (λ n. FirstOf P n)

-- the node is in a stuck pair with one of a greater number
abbrev pub IsLesserOfStuck : Graph → ℕ → Type 0
IsLesserOfStuck g x = (y : ℕ) × (x < y) × IsStuck (net_of g) x y

abbrev pub graph_of : ℕ → List (Option (Kind × ℕ)) → List ℕ → Graph
graph_of free nodes partners = record { free = free; nodes = nodes; partners = partners }
