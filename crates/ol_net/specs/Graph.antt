-- A net as plain data
use Rattle.std.specs.Prelude.{◌≡◌, ℕ, ◌+◌, ◌-◌, ◌*◌, ◌/◌, ◌%◌, Bool, false, ◌==◌, nat_lt, not}
use Rattle.std.specs.Prelude.{if◌then◌else◌, List, length, Option, Some, None, slice_index_or}
use Rattle.ol_net.specs.declared.parts.Kind.{Kind}
use Rattle.ol_net.specs.declared.parts.NodeId.{NodeId}
use Rattle.ol_net.specs.declared.parts.Port.{Port}
use Rattle.ol_net.specs.declared.parts.Port.TheVariants.{Free, Of}
use Rattle.ol_net.specs.declared.parts.Facing.{Facing}
use Rattle.ol_net.specs.declared.parts.Facing.TheVariants as facing
use Rattle.ol_net.specs.Pairing.{IsPaired, other}
use Rattle.ol_net.specs.Parts.{slots_of}
use Rattle.ol_net.specs.Rules.{facing_of_pair}

-- Nodes stand under their numbers, and one that is gone is None. Every port has a place: free ports by number, and
-- then three places for each node number. `partners` has at the place of a port the place of its partner, and at a
-- place that is no port that place itself.
pub record Graph : Type 0 where
  pub free : ℕ
  pub nodes : List (Option (Kind × ℕ))
  pub partners : List ℕ

-- kind and index, if a live node has the number
abbrev pub kind_at : List (Option (Kind × ℕ)) → ℕ → Option (Kind × ℕ)
kind_at nodes n = slice_index_or nodes n None

abbrev pub has_slot : Option (Kind × ℕ) → ℕ → Bool
has_slot None s = false
has_slot (Some k) s = nat_lt s (slots_of k.0)

-- whether there is such a port
abbrev pub has_port : ℕ → List (Option (Kind × ℕ)) → Port → Bool
has_port free nodes (Free k) = nat_lt k free
has_port free nodes (Of n s) = has_slot (kind_at nodes n.0) s

-- its place
abbrev pub place : ℕ → Port → ℕ
place free (Free k) = k
place free (Of n s) = free + 3 * n.0 + s

-- the port at a place
abbrev pub port_at : ℕ → ℕ → Port
port_at free k = if nat_lt k free then Free k else Of (record { 0 = (k - free) / 3 }) ((k - free) % 3)

-- the other port of its link, if there is such a port
abbrev pub partner_in : ℕ → List (Option (Kind × ℕ)) → List ℕ → Port → Option Port
partner_in free nodes partners p = if has_port free nodes p then Some
    (port_at free (other partners (place free p))) else None

abbrev pub partner_of : Graph → Port → Option Port
partner_of g p = partner_in g.free g.nodes g.partners p

abbrev pub facing_between : Kind × ℕ → Option (Kind × ℕ) → Facing
facing_between f (Some g) = facing_of_pair f g
facing_between f None = facing.None

abbrev pub facing_across : List (Option (Kind × ℕ)) → Option (Kind × ℕ) → Option Port → Facing
facing_across nodes (Some f) (Some (Of m s)) = if s == 0 then facing_between f (kind_at nodes m.0) else facing.None
facing_across nodes f q = facing.None

-- what a node is to the node at the other end of the link of its principal port
abbrev pub facing_at : Graph → NodeId → Facing
facing_at g n = facing_across g.nodes (kind_at g.nodes n.0) (partner_of g (Of n 0))

-- The tables of a net. In all of it a place past the end of `partners` counts as one that is alone.
pub record IsTabled (free : ℕ) (nodes : List (Option (Kind × ℕ))) (partners : List ℕ) : Type 0 where
  pub size : length partners ≡ free + 3 * length nodes
  pub paired : IsPaired (other partners)
  pub ports : (k : ℕ) → (other partners k == k) ≡ not (has_port free nodes (port_at free k))
