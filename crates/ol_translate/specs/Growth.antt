-- Private: what a step of the walk adds to the nodes and links that are laid down.
use Rattle.std.specs.Prelude.{◌≡◌, ◌≢◌, ◌<◌, ℕ, List, ◌++◌, length, slice_set, slice_get, slice_index_or, Some}
use Rattle.ol_net.specs.declared.parts.Kind.{Kind}
use Rattle.ol_net.specs.declared.parts.Port.{Port}
use Rattle.ol_limits.specs.Limits.{most_nodes}
use Rattle.ol_translate.specs.declared.faults.TransFault.{TransFault}
use Rattle.ol_translate.specs.declared.faults.TransFault.TheVariants.{TooMany}
use Rattle.ol_translate.specs.declared.parts.Parts.{Parts}
use Rattle.ol_translate.specs.declared.wires.Ends.{Ends}
use Rattle.ol_translate.specs.Translation.{Subnet, wire_of, reconnected}

-- the part's nodes and links come last, and its root and wires are left open
pub record Lays (old : Parts) (P : Subnet) (new : Parts) (ends : Ends) : Type 0 where
  pub nodes_are : new.nodes.items ≡ old.nodes.items ++ P.nodes
  pub links_are : new.links.items ≡ old.links.items ++ P.links
  pub root_is : ends.root ≡ P.root
  pub wires_are : ends.wires.items ≡ P.wires

-- these nodes and links come last
pub record Adds (old new : Parts) (more : List (Kind × ℕ)) (joins : List (Port × Port)) : Type 0 where
  pub nodes_are : new.nodes.items ≡ old.nodes.items ++ more
  pub links_are : new.links.items ≡ old.links.items ++ joins

-- the number of the next node
abbrev pub next_number : Parts → ℕ
next_number parts = length parts.nodes.items

-- `TooMany` comes only where these are more than 200,000 nodes
abbrev pub OnlyAbove : ℕ → TransFault → Type 0
OnlyAbove n e = e ≡ TooMany → most_nodes < n

-- the wire of this variable stands at this place
pub record IsPlaced (v : ℕ) (wires : List (ℕ × Port)) (place : ℕ) : Type 0 where
  pub within : place < length wires
  pub own : (w : ℕ × Port) → (slice_index_or wires place w).0 ≡ v
  pub port : (w : ℕ × Port) → wire_of v wires ≡ Some (slice_index_or wires place w).1
  pub changes : (p : Port) → reconnected v p wires ≡ slice_set wires place (v, p)

-- no variable has two wires
abbrev pub HaveOneEach : List (ℕ × Port) → Type 0
HaveOneEach wires = (i j : ℕ) (w : ℕ × Port) → i < length wires → j < length wires →
    (slice_index_or wires i w).0 ≡ (slice_index_or wires j w).0 → i ≡ j

-- these are the places of the wires, by their variables
abbrev pub IsIndex : List ℕ → List (ℕ × Port) → Type 0
IsIndex places wires = (i : ℕ) (w : ℕ × Port) → i < length wires →
    slice_get places (slice_index_or wires i w).0 ≡ Some i

-- the places of all other variables stay
abbrev pub KeepsOthers : ℕ → List ℕ → List ℕ → Type 0
KeepsOthers v places places' = (u k : ℕ) → u ≢ v → slice_get places u ≡ Some k → slice_get places' u ≡ Some k
