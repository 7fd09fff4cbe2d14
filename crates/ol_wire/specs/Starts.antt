-- The net at the start, and its cells and wires in the order in which they are numbered.
use Rattle.std.specs.Prelude.{Bool, ◌≡◌, ℕ, suc, ◌+◌, ◌*◌, ◌==◌, nat_lt, if◌then◌else◌, List, []}
use Rattle.std.specs.Prelude.{◌∷◌, length, Option, Some}
use Rattle.ol_net.specs.declared.parts.Port.{Port}
use Rattle.ol_net.specs.declared.parts.Port.TheVariants.{Of}
use Rattle.ol_net.specs.Graph.{Graph, partner_of}
use Rattle.ol_net.specs.Nets.{NamedNet, net_under}
use Rattle.ol_net.specs.Numbered.{net_of}
use Rattle.ol_rules.specs.Listed.{each}
use Rattle.ol_rules.specs.declared.journal.NodeName.{NodeName}
use Rattle.ol_rules.specs.declared.journal.NodeName.TheVariants.{Init}
use Rattle.ol_wire.specs.declared.layout.Parts.{Parts}
use Rattle.ol_wire.specs.declared.plan.Plan.{Plan}

-- the net that the table was made from, under the names of start nodes
abbrev pub start_net_of_plan : Plan → NamedNet NodeName
start_net_of_plan p = net_under Init (net_of p.start.value)

-- the pair of node n, where it faces a node of a greater number
abbrev pub pair_with : ℕ → Option Port → List (ℕ × ℕ)
pair_with n (Some (Of m s)) = if s == 0 then (if nat_lt n m.0 then (n, m.0) ∷ [] else []) else []
pair_with n other = []

abbrev pub pair_at : Graph → ℕ → List (ℕ × ℕ)
pair_at net n = pair_with n (partner_of net (Of (record { 0 = n }) 0))

-- the facing pairs, by the smaller number
abbrev pub facing_pairs : Graph → List (ℕ × ℕ)
facing_pairs net = each (length net.nodes) (pair_at net)

-- slots come by the number of their node, and then by their own
abbrev pub comes_first : ℕ → ℕ → ℕ → ℕ → Bool
comes_first n s m u = nat_lt (3 * n + s) (3 * m + u)

-- the wire of slot s of node n, where that slot is linked to an auxiliary slot that comes after it
abbrev pub wire_with : ℕ → ℕ → Option Port → List (ℕ × ℕ)
wire_with n s (Some (Of m u)) = if u == 0 then [] else (if comes_first n s m.0 u then (n, s) ∷ [] else [])
wire_with n s other = []

-- the wire of slot s + 1 of node n, where it has one and comes first
abbrev pub wire_at : Graph → ℕ → ℕ → List (ℕ × ℕ)
wire_at net n s = wire_with n (suc s) (partner_of net (Of (record { 0 = n }) (suc s)))

-- the links of two auxiliary slots, each by the one that comes first
abbrev pub aux_links : Graph → List (ℕ × ℕ)
aux_links net = each (length net.nodes) (λ n. each 2 (wire_at net n))

-- the parts of the table of a net with so many tickets
pub record AreParts (net : Graph) (tickets : ℕ) (z : Parts) : Type 0 where
  pub free : z.free ≡ net.free
  pub nodes : z.nodes ≡ length net.nodes
  pub wires : z.wires ≡ length (aux_links net)
  pub cells : z.cells ≡ length (facing_pairs net)
  pub fuel : z.fuel ≡ tickets
