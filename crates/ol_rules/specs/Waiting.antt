-- Sets of node numbers that wait for their turn, and what is added to them.
use Rattle.std.specs.Prelude.{◌≡◌, ◌↔◌, ℕ, ◌+◌, ◌<◌, ◌≤◌, true, Option, MatchOption, ◌⊎◌}
use Rattle.std.specs.Ordering.{nat_cmp}
use Rattle.std.specs.BTreeSet.{BTreeSet, contains}
use Rattle.ol_net.specs.declared.parts.NodeId.{NodeId}
use Rattle.ol_net.specs.declared.parts.Port.{Port}
use Rattle.ol_net.specs.declared.parts.Rule.{Rule}
use Rattle.ol_net.specs.Graph.{Graph}
use Rattle.ol_net.specs.Nets.{slot, Linked}
use Rattle.ol_net.specs.Numbered.{net_of, numbered_port}
use Rattle.ol_net.specs.Pairs.{IsInActive}

-- new has what old has, and the numbers that are so
abbrev pub AreAdded : (ℕ → Type 0) → BTreeSet ℕ → BTreeSet ℕ → Type 0
AreAdded IsSo old new = (x : ℕ) →
    (contains nat_cmp new x ≡ true) ↔ ((contains nat_cmp old x ≡ true) ⊎ IsSo x)

-- a node of an active pair, with a number in this range
abbrev pub IsActiveIn : Graph → (from to : ℕ) → ℕ → Type 0
IsActiveIn g from to x = (from ≤ x) × (x < to) × ((r : Rule) × IsInActive (net_of g) x r)

-- a node whose principal port is joined to an auxiliary port of this one
abbrev pub IsBeside : Graph → (at : ℕ) → ℕ → Type 0
IsBeside g at x = (s : ℕ) × Linked (net_of g) (slot x 0) (slot at (s + 1))

-- the node whose principal port is joined to this port, or None where there is none
abbrev pub FindsNode : Graph → Port → Option NodeId → Type 0
FindsNode g port found =
    MatchOption found ((x : ℕ) → Linked (net_of g) (slot x 0) (numbered_port port) → ⊥)
    (λ node. (x : ℕ) → Linked (net_of g) (slot x 0) (numbered_port port) ↔ (x ≡ node.0))
