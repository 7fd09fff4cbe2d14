-- Private: what is known of a net while its links are found in the words of a closed table.
use Rattle.std.specs.Prelude.{◌≡◌, ◌≢◌, ℕ, suc, ◌+◌, ◌-◌, ◌*◌, ◌/◌, ◌%◌, ◌<◌, ◌≤◌, nat_lt}
use Rattle.std.specs.Prelude.{if◌then◌else◌, Bool, true, List, length, slice_index, slice_index_or}
use Rattle.std.specs.Prelude.{◌⊎◌}
use Rattle.ol_net.specs.declared.parts.Kind.{Kind}
use Rattle.ol_net.specs.declared.parts.Kind.TheVariants.{Eraser}
use Rattle.ol_net.specs.Nets.{NamedPort, slot, NamedNet, HasNode, Linked, port_under}
use Rattle.ol_net.specs.Numbered.{numbered_port}
use Rattle.ol_net.specs.Graph.{port_at}
use Rattle.ol_net.specs.Pairing.{IsPaired, other}
use Rattle.ol_rules.specs.declared.journal.NodeName.{NodeName}
use Rattle.ol_wire.specs.declared.layout.Parts.{Parts}
use Rattle.ol_wire.specs.References.{wire_ref}
use Rattle.ol_wire.specs.Layout.{left_word, cells_of, start_wire, start_cell, block, table_size}
use Rattle.ol_wire.specs.Events.{name_at}
use Rattle.ol_wire.specs.Stands.{IsEnd}
use Rattle.ol_wire.specs.Closed.{ClosedTable}
use Rattle.ol_wire.specs.Standing.{WordsStandFor}
use Rattle.ol_reduce.specs.Following.{OwnsWord, LeadsTo, IsStart}

-- the name of node n, by its place
abbrev pub name_of : Parts → List ℕ → ℕ → NodeName
name_of z places n = name_at z (slice_index places n)

-- the port at place a of the table of partners
abbrev pub port_of : Parts → List ℕ → ℕ → NamedPort NodeName
port_of z places a = port_under (name_of z places) (numbered_port (port_at z.free a))

abbrev pub kind_of : List (Kind × ℕ) → ℕ → Kind × ℕ
kind_of kinds n = slice_index_or kinds n (Eraser, 0)

-- where a is the place of slot 0 of a node, the kind of the node is known
abbrev pub IsKnown : ClosedTable → NamedNet NodeName → List ℕ → List (Kind × ℕ) → ℕ → Type 0
IsKnown w net places kinds a = (n : ℕ) → n < length places → a ≡ w.plan.parts.free + 3 * n
    → HasNode net (name_of w.plan.parts places n) (kind_of kinds n).0 (kind_of kinds n).1

-- What partners are known are linked in the net, and of slots 0 that have one the kind is known.
pub record IsPartial (w : ClosedTable) (net : NamedNet NodeName) (places : List ℕ)
    (kinds : List (Kind × ℕ)) (partners : List ℕ) : Type 0 where
  pub kinds_long : length kinds ≡ length places
  pub partners_long : length partners ≡ w.plan.parts.free + 3 * length places
  pub paired : IsPaired (other partners)
  pub linked : (a : ℕ) → other partners a ≢ a
      → Linked net (port_of w.plan.parts places a) (port_of w.plan.parts places (other partners a))
  pub known : (a : ℕ) → other partners a ≢ a → IsKnown w net places kinds a

-- wires are numbered from 0: those of the start, and then four for each ticket
abbrev pub wire_word : Parts → ℕ → ℕ
wire_word z k = if nat_lt k z.wires then start_wire z k else block z ((k - z.wires) / 4) + 10 + (k - z.wires) % 4

-- a word of a wire of the start, or of one that a ticket may have made
abbrev pub IsStartWire : Parts → ℕ → Type 0
IsStartWire z n = (start_wire z 0 ≤ n) × (n < start_cell z 0)

abbrev pub IsBornWire : Parts → ℕ → Type 0
IsBornWire z n = (block z 0 ≤ n) × (n < table_size z) × (10 ≤ (n - block z 0) % 22) × ((n - block z 0) % 22 < 14)

-- the chain of e leads to an empty wire, where it is written that the port at place a came there
abbrev pub WaitsAt : ClosedTable → NamedNet NodeName → (ℕ → Bool) → List ℕ → ℕ → ℕ → Type 0
WaitsAt w net reached met a e = (k : ℕ) × (reached (wire_word w.plan.parts k) ≡ true)
    × (slice_index w.words (wire_word w.plan.parts k) ≡ 0)
    × LeadsTo w net reached e (wire_ref (wire_word w.plan.parts k)) × (slice_index met k ≡ a + 1)

-- `met` has a place for each wire. Of the ports at places below n, each that owns a word has a
-- partner or waits for one.
pub record AreMet (w : ClosedTable) (net : NamedNet NodeName) (reached : ℕ → Bool)
    (places partners met : List ℕ) (n : ℕ) : Type 0 where
  pub came : (k : ℕ) → slice_index met k ≢ 0
      → (a : ℕ) × (e : ℕ) × (slice_index met k ≡ a + 1) × (a < n)
      × IsEnd w.plan.parts net (port_of w.plan.parts places a) e
      × LeadsTo w net reached e (wire_ref (wire_word w.plan.parts k))
  pub settled : (a e m : ℕ) → a < n → IsEnd w.plan.parts net (port_of w.plan.parts places a) e
      → OwnsWord w net reached m e → (other partners a ≢ a) ⊎ WaitsAt w net reached met a e

-- the word of the port at place a, if it has one
pub record IsWordOf (w : ClosedTable) (net : NamedNet NodeName) (reached : ℕ → Bool)
    (places : List ℕ) (a n : ℕ) : Type 0 where
  pub only : (e m : ℕ) → IsEnd w.plan.parts net (port_of w.plan.parts places a) e → OwnsWord w net reached m e → m ≡ n
  pub owned : slice_index w.words n ≢ 0
      → (e : ℕ) × IsEnd w.plan.parts net (port_of w.plan.parts places a) e
      × IsStart w net reached e (slice_index w.words n)

-- the reference is that of a node of the net
abbrev pub IsOfNode : ClosedTable → NamedNet NodeName → ℕ → Type 0
IsOfNode w net r = (x : NodeName) × IsEnd w.plan.parts net (slot x 0) r

-- the place is that of slot 0 of the node of this reference, whose kind is known
abbrev pub IsSiteOf : ClosedTable → NamedNet NodeName → List ℕ → List (Kind × ℕ) → ℕ → ℕ → Type 0
IsSiteOf w net places kinds r a = IsEnd w.plan.parts net (port_of w.plan.parts places a) r
    × IsKnown w net places kinds a

-- the nodes of the first n cells have partners
abbrev pub AreCelled : ClosedTable → NamedNet NodeName → List ℕ → List ℕ → ℕ → Type 0
AreCelled w net places partners n = (c r a : ℕ) → c < n → a < length partners
    → slice_index w.words (left_word w.plan.parts c) ≢ 0
    → (r ≡ slice_index w.words (left_word w.plan.parts c)) ⊎ (r ≡ slice_index w.words (suc (left_word w.plan.parts c)))
    → IsEnd w.plan.parts net (port_of w.plan.parts places a) r → other partners a ≢ a

-- and those of the first k of these cells
abbrev pub AreListed : ClosedTable → NamedNet NodeName → List ℕ → List ℕ → List ℕ → ℕ → Type 0
AreListed w net places partners cells k = (j r a : ℕ) → j < k → a < length partners
    → slice_index w.words (left_word w.plan.parts (slice_index cells j)) ≢ 0
    → (r ≡ slice_index w.words (left_word w.plan.parts (slice_index cells j)))
    ⊎ (r ≡ slice_index w.words (suc (left_word w.plan.parts (slice_index cells j))))
    → IsEnd w.plan.parts net (port_of w.plan.parts places a) r → other partners a ≢ a

-- these are cells of the table
abbrev pub AreCells : ClosedTable → List ℕ → Type 0
AreCells w cells = (j : ℕ) → j < length cells → slice_index cells j < cells_of w.plan.parts

-- Each of these holds of the net and the wires that the words stand for, whichever they are.
abbrev pub IsPartly : ClosedTable → List ℕ → List (Kind × ℕ) → List ℕ → Type 0
IsPartly w places kinds partners = (net : NamedNet NodeName) (reached : ℕ → Bool) → WordsStandFor w net reached
    → IsPartial w net places kinds partners

abbrev pub AreMetTo : ClosedTable → List ℕ → List ℕ → List ℕ → ℕ → Type 0
AreMetTo w places partners met n = (net : NamedNet NodeName) (reached : ℕ → Bool) → WordsStandFor w net reached
    → AreMet w net reached places partners met n

abbrev pub AreCelledTo : ClosedTable → List ℕ → List ℕ → ℕ → Type 0
AreCelledTo w places partners n = (net : NamedNet NodeName) (reached : ℕ → Bool) → WordsStandFor w net reached
    → AreCelled w net places partners n

abbrev pub AreListedTo : ClosedTable → List ℕ → List ℕ → List ℕ → ℕ → Type 0
AreListedTo w places partners cells k = (net : NamedNet NodeName) (reached : ℕ → Bool) → WordsStandFor w net reached
    → AreListed w net places partners cells k

abbrev pub IsNodeIn : ClosedTable → ℕ → Type 0
IsNodeIn w r = (net : NamedNet NodeName) (reached : ℕ → Bool) → WordsStandFor w net reached → IsOfNode w net r

abbrev pub IsSiteIn : ClosedTable → List ℕ → List (Kind × ℕ) → ℕ → ℕ → Type 0
IsSiteIn w places kinds r a = (net : NamedNet NodeName) (reached : ℕ → Bool) → WordsStandFor w net reached
    → IsSiteOf w net places kinds r a

abbrev pub IsWordAt : ClosedTable → List ℕ → ℕ → ℕ → Type 0
IsWordAt w places a n = (net : NamedNet NodeName) (reached : ℕ → Bool) → WordsStandFor w net reached
    → IsWordOf w net reached places a n

-- what was known stays known
abbrev pub KeepsKnown : ClosedTable → List ℕ → List (Kind × ℕ) → List (Kind × ℕ) → Type 0
KeepsKnown w places old new = (net : NamedNet NodeName) (reached : ℕ → Bool) → WordsStandFor w net reached → (a : ℕ)
    → IsKnown w net places old a → IsKnown w net places new a

abbrev pub KeepsPartners : List ℕ → List ℕ → Type 0
KeepsPartners old new = (a : ℕ) → other old a ≢ a → other new a ≢ a
