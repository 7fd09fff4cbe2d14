-- Nets whose nodes are listed once, so that the length of the list is their number.
use Rattle.std.specs.Prelude.{ℕ, List, [], ◌∷◌}
use Rattle.ol_law_edges.specs.Edges.{IsIn}
use Rattle.ol_net.specs.declared.parts.Kind.{Kind}
use Rattle.ol_net.specs.Nets.{NamedNet}

-- no name stands in two entries of the list
abbrev pub AreNamedOnce : {A : Type 0} → List (A × Kind × ℕ) → Type 0
AreNamedOnce [] = Unit {0}
AreNamedOnce (n ∷ nodes) = ((k : Kind) (i : ℕ) → IsIn (n.0, k, i) nodes → ⊥) × AreNamedOnce nodes

-- no name stands in two entries of the net's list of nodes
abbrev pub ListsOnce : {A : Type 0} → NamedNet A → Type 0
ListsOnce N = AreNamedOnce N.nodes
