-- Private: links by the places of their ports, and the table that they make
use Rattle.std.specs.Prelude.{◌≡◌, ℕ, ◌+◌, ◌*◌, ◌<◌, Bool, true, false, ◌==◌, not, ◌&&◌, List, slice_index_or}
use Rattle.std.specs.Prelude.{length, map, take, Option, Result, MatchOption, MatchResult}
use Rattle.std.specs.declared.vec.Vec.{Vec}
use Rattle.std.specs.declared.alloc.Global.{Global}
use Rattle.ol_net.specs.declared.parts.Kind.{Kind}
use Rattle.ol_net.specs.declared.parts.Port.{Port}
use Rattle.ol_net.specs.declared.parts.BuildFault.{BuildFault}
use Rattle.ol_net.specs.declared.parts.BuildFault.TheVariants.{BadIndex, BadPort, Twice, Loose, NoMemory}
use Rattle.ol_net.specs.Graph.{has_port, place, port_at}
use Rattle.ol_net.specs.Pairing.{IsPaired, other}
use Rattle.ol_net.specs.Linking.{partner_among}
use Rattle.ol_net.specs.Build.{FirstOf, NoneOf, BadIndexAt, BadPortAt, TwiceAt, FaultIs, IsFirstLoose}
use Rattle.ol_net.specs.Numbered.{all_live}

-- the links by the places of their ports
abbrev pub places : ℕ → List (Port × Port) → List (ℕ × ℕ)
places free links = map (λ l. (place free l.0, place free l.1)) links

-- a link that has two ports, and none of these earlier links has one of them
abbrev pub is_apart : List (ℕ × ℕ) → ℕ × ℕ → Bool
is_apart earlier e = not (e.0 == e.1) && (partner_among earlier e.0 == e.0) && (partner_among earlier e.1 == e.1)

-- link j has the same place at both ends, or a place of an earlier link
abbrev pub MeetsAt : List (ℕ × ℕ) → ℕ → Type 0
MeetsAt es j = (j < length es) × (is_apart (take j es) (slice_index_or es j (0, 0)) ≡ false)

-- the port at place k has no partner in the table
abbrev pub AloneAt : ℕ → List (Option (Kind × ℕ)) → List ℕ → ℕ → Type 0
AloneAt free nodes partners k =
    (k < free + 3 * length nodes) × (has_port free nodes (port_at free k) ≡ true) × (other partners k ≡ k)

-- the answer of a search: the first port that has no partner in the table, or None where each port has one
abbrev pub FindsAlone : ℕ → List (Option (Kind × ℕ)) → List ℕ → Option Port → Type 0
FindsAlone free nodes partners found =
    MatchOption found (NoneOf (AloneAt free nodes partners))
    (λ p. FirstOf (AloneAt free nodes partners) (place free p) × (has_port free nodes p ≡ true))

-- the table pairs the places of these links, and no place that is no port
pub record LinkedUp (free : ℕ) (nodes : List (Option (Kind × ℕ))) (es : List (ℕ × ℕ)) (partners : List ℕ) : Type 0 where
  pub size : length partners ≡ free + 3 * length nodes
  pub paired : IsPaired (other partners)
  pub same : (k : ℕ) → other partners k ≡ partner_among es k
  pub elsewhere : (k : ℕ) → has_port free nodes (port_at free k) ≡ false → other partners k ≡ k

abbrev pub AreAllLinked : ℕ → List (Option (Kind × ℕ)) → List (Port × Port) → List ℕ → Type 0
AreAllLinked free nodes links partners = LinkedUp free nodes (places free links) partners

-- what is wrong with links whose ports exist, if this fault is the answer
abbrev pub LinkFaultIs : ℕ → List (Option (Kind × ℕ)) → List (Port × Port) → BuildFault → Type 0
LinkFaultIs free nodes links (BadIndex n) = ⊥
LinkFaultIs free nodes links (BadPort j) = ⊥
LinkFaultIs free nodes links (Twice j) = FirstOf (TwiceAt links) j
LinkFaultIs free nodes links (Loose p) = NoneOf (TwiceAt links) × IsFirstLoose free nodes links p
LinkFaultIs free nodes links NoMemory = Unit {0}

-- a table with just these links, in which no port is alone
pub record IsTable (free : ℕ) (nodes : List (Option (Kind × ℕ))) (links : List (Port × Port))
    (partners : List ℕ) : Type 0 where
  pub once : NoneOf (TwiceAt links)
  pub linked : LinkedUp free nodes (places free links) partners
  pub none_alone : NoneOf (AloneAt free nodes partners)

-- the answer to links whose ports exist: their table, or what is wrong with them
abbrev pub GivesTable : ℕ → List (Option (Kind × ℕ)) → List (Port × Port) → Result (Vec ℕ Global) BuildFault → Type 0
GivesTable free nodes links answer = MatchResult answer (λ v. IsTable free nodes links v.items)
    (LinkFaultIs free nodes links)

-- good parts, and their tables
pub record AreTables (top free : ℕ) (nodes : List (Kind × ℕ)) (links : List (Port × Port))
    (live : List (Option (Kind × ℕ))) (partners : List ℕ) : Type 0 where
  pub good_indexes : NoneOf (BadIndexAt top nodes)
  pub good_ports : NoneOf (BadPortAt free (all_live nodes) links)
  pub same_nodes : live ≡ all_live nodes
  pub table : IsTable free (all_live nodes) links partners

-- the answer to the parts of a net: its two tables, or what is wrong with the parts
abbrev pub GivesTables : (top free : ℕ) → List (Kind × ℕ) → List (Port × Port) →
    Result (Vec (Option (Kind × ℕ)) Global × Vec ℕ Global) BuildFault → Type 0
GivesTables top free nodes links answer =
    MatchResult answer (λ t. AreTables top free nodes links t.0.items t.1.items) (FaultIs top free nodes links)
