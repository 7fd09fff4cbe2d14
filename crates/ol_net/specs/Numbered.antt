-- A graph's tables as a net whose nodes are named by their numbers.
use Rattle.std.specs.Prelude.{ℕ, suc, nat_lt, if◌then◌else◌, List, [], ◌∷◌, map, Option, Some, None}
use Rattle.ol_net.specs.declared.parts.Kind.{Kind}
use Rattle.ol_net.specs.declared.parts.Port.{Port}
use Rattle.ol_net.specs.declared.parts.Port.TheVariants.{Free, Of}
use Rattle.ol_net.specs.Graph.{Graph, port_at}
use Rattle.ol_net.specs.Nets.{NamedPort, free, slot, NamedNet, Linked}

abbrev pub numbered_port : Port → NamedPort ℕ
numbered_port (Free k) = free k
numbered_port (Of n s) = slot n.0 s

-- the live nodes from number n on
abbrev pub nodes_from : ℕ → List (Option (Kind × ℕ)) → List (ℕ × Kind × ℕ)
nodes_from n [] = []
nodes_from n (None ∷ nodes) = nodes_from (suc n) nodes
nodes_from n (Some k ∷ nodes) = (n, k.0, k.1) ∷ nodes_from (suc n) nodes

-- the links whose lower place is k or later, each once
abbrev pub links_from : ℕ → ℕ → List ℕ → List (NamedPort ℕ × NamedPort ℕ)
links_from ports k [] = []
links_from ports k (p ∷ partners) =
    if nat_lt k p then (
      numbered_port (port_at ports k),
      numbered_port (port_at ports p),
    ) ∷ links_from ports (suc k) partners
    else links_from ports (suc k) partners

abbrev pub net_of : Graph → NamedNet ℕ
net_of g = record { nodes = nodes_from 0 g.nodes; free_ports = g.free; links = links_from g.free 0 g.partners }

-- two ports of a graph are linked
abbrev pub PortsLinked : Graph → Port → Port → Type 0
PortsLinked g p q = Linked (net_of g) (numbered_port p) (numbered_port q)

-- the node list that a net begins with
abbrev pub all_live : List (Kind × ℕ) → List (Option (Kind × ℕ))
all_live nodes = map (λ k. Some k) nodes

-- nodes numbered from n on, all live
abbrev pub numbered_from : ℕ → List (Kind × ℕ) → List (ℕ × Kind × ℕ)
numbered_from n [] = []
numbered_from n (k ∷ nodes) = (n, k.0, k.1) ∷ numbered_from (suc n) nodes

-- the net of so many free ports, these nodes, numbered from 0 in order, and these links
abbrev pub net_of_parts : ℕ → List (Kind × ℕ) → List (Port × Port) → NamedNet ℕ
net_of_parts ports nodes links = record {
  nodes = numbered_from 0 nodes;
  free_ports = ports;
  links = map (λ (l : Port × Port). (numbered_port l.0, numbered_port l.1)) links;
}
