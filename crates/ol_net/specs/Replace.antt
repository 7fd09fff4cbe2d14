-- One replacement in a net: two nodes go, others come, and the joins decide what is linked.
use Rattle.std.specs.Prelude.{◌≡◌, ◌≢◌, ℕ, ◌+◌, ◌≤◌, List, length, Option, Some, ◌⊎◌, ◌↔◌, slice_get, true}
use Rattle.ol_law_edges.specs.Edges.{IsIn, Edge, Contracted}
use Rattle.ol_net.specs.declared.parts.Kind.{Kind}
use Rattle.ol_net.specs.declared.parts.NodeId.{NodeId}
use Rattle.ol_net.specs.declared.parts.Port.TheVariants.{Of}
use Rattle.ol_net.specs.declared.parts.JoinEnd.{JoinEnd}
use Rattle.ol_net.specs.declared.parts.JoinEnd.TheVariants.{First, Second, Born}
use Rattle.ol_net.specs.Parts.{is_eraser}
use Rattle.ol_net.specs.Graph.{Graph, kind_at, partner_of}
use Rattle.ol_net.specs.Indexes.{top_index_of}
use Rattle.ol_net.specs.Joins.{uses_up, open_ends}
use Rattle.ol_net.specs.Nets.{NamedPort, slot, HasNode, Linked, IsPrincipalOf, IsSlotOf}
use Rattle.ol_net.specs.Numbered.{net_of}

-- two nodes whose principal ports are partners
abbrev pub AreFacing : Graph → NodeId → NodeId → Type 0
AreFacing g first second = (first.0 ≢ second.0) × (partner_of g (Of first 0) ≡ Some (Of second 0))

-- an index that a born node may have: at most one above the greatest, and 0 for an eraser
abbrev pub MayBeBorn : ℕ → Kind × ℕ → Type 0
MayBeBorn top k = (k.1 ≤ top + 1) × (is_eraser k.0 ≡ true → k.1 ≡ 0)

-- each of these nodes may be born in a graph with such nodes
abbrev pub MayAllBeBorn : List (Option (Kind × ℕ)) → List (Kind × ℕ) → Type 0
MayAllBeBorn nodes born = (p : ℕ) (k : Kind × ℕ) → slice_get born p ≡ Some k → MayBeBorn (top_index_of nodes) k

-- each slot of the two nodes but the principal one, and each slot of a node that comes, stands in
-- one join, once, and nothing else does
abbrev pub JoinsFit : Graph → NodeId → NodeId → List (Kind × ℕ) → List (JoinEnd × JoinEnd) → Type 0
JoinsFit g first second born joins =
    uses_up joins (open_ends (kind_at g.nodes first.0) (kind_at g.nodes second.0) born) ≡ true

-- the port that an end of a join names, where born nodes have the numbers from next on
abbrev pub port_of_end : (first second next : ℕ) → JoinEnd → NamedPort ℕ
port_of_end first second next (First s) = slot first s
port_of_end first second next (Second s) = slot second s
port_of_end first second next (Born p s) = slot (next + p) s

-- p and q are the two ports of a join
abbrev pub JoinsOf : (first second next : ℕ) → List (JoinEnd × JoinEnd) → NamedPort ℕ → NamedPort ℕ → Type 0
JoinsOf first second next joins p q =
    (j : JoinEnd × JoinEnd) × IsIn j joins × (p ≡ port_of_end first second next j.0)
    × (q ≡ port_of_end first second next j.1)

-- the node at place p of those born has the number p above next
abbrev pub IsBorn : (next : ℕ) → List (Kind × ℕ) → ℕ → Kind → ℕ → Type 0
IsBorn next born x k i = (p : ℕ) × (x ≡ next + p) × (slice_get born p ≡ Some (k, i))

-- The two nodes go, and those that come have the next numbers. Of the links, those of the two
-- principal ports go, the joins are added as edges, and what is then joined by way of the slots of
-- the two nodes is linked.
pub record Replaces (old new : Graph) (first second : NodeId) (born : List (Kind × ℕ))
    (joins : List (JoinEnd × JoinEnd)) : Type 0 where
  pub free_ports : new.free ≡ old.free
  pub numbers : length new.nodes ≡ length old.nodes + length born
  pub nodes : (x : ℕ) (k : Kind) (i : ℕ) → HasNode (net_of new) x k i
      ↔ ((HasNode (net_of old) x k i × (x ≢ first.0) × (x ≢ second.0)) ⊎ IsBorn (length old.nodes) born x k i)
  pub links : (p q : NamedPort ℕ) → Linked (net_of new) p q
      ↔ Contracted (Edge (Linked (net_of old)) (IsPrincipalOf first.0 second.0)
      (JoinsOf first.0 second.0 (length old.nodes) joins))
      (IsSlotOf first.0 second.0) p q
