-- What the words of a closed table stand for.
use Rattle.std.specs.Prelude.{◌&&◌, nat_eq, ◌≡◌, ◌≢◌, ℕ, suc, ◌+◌, ◌<◌, ◌≤◌, Bool, true, List, Some}
use Rattle.std.specs.Prelude.{length, slice_index, slice_get, ◌↔◌}
use Rattle.ol_net.specs.declared.parts.Kind.{Kind}
use Rattle.ol_net.specs.Nets.{NamedNet, HasNode, IsNet}
use Rattle.ol_net.specs.Parts.{is_eraser}
use Rattle.ol_rules.specs.declared.journal.NodeName.{NodeName}
use Rattle.ol_rules.specs.declared.journal.NodeName.TheVariants.{Init, Born}
use Rattle.ol_rules.specs.declared.journal.Entry.{Entry}
use Rattle.ol_wire.specs.declared.layout.Parts.{Parts}
use Rattle.ol_wire.specs.References.{place_in, IsNodeRef, IsRef, IsWholeRef}
use Rattle.ol_wire.specs.Layout.{WordPart, wire, between, left, part_of_word, block, table_size, IsPlaced}
use Rattle.ol_wire.specs.Sizes.{IsSmall}
use Rattle.ol_wire.specs.Blocks.{copies_of_f, copies_of_g}
use Rattle.ol_wire.specs.Edges.{edges_in, is_made, times_in}
use Rattle.ol_wire.specs.Stands.{StandsForNet}
use Rattle.ol_wire.specs.Closed.{ClosedTable, events_in, event_at, log_in, journal_in, IsAfter}
pub use Rattle.ol_wire.specs.Closed.{IsAfter, NoNodeTwice}

-- a wire of the start, or one that a ticket made
abbrev pub IsWirePart : WordPart → Type 0
IsWirePart (wire j) = Unit {0}
IsWirePart (between t q p) = Unit {0}
IsWirePart other = ⊥

-- whether the wire of that word is reached: it was made, and no exchange made it dead
abbrev pub is_reached_in : ClosedTable → ℕ → Bool
is_reached_in w n = is_made w.plan.parts (log_in w.plan.parts w.words) n && nat_eq (times_in n w.view.dead) 0

-- a node of the start, or one that a ticket made
abbrev pub IsMadeNode : Parts → List ℕ → NodeName → Type 0
IsMadeNode z words (Init n) = n < z.nodes
IsMadeNode z words (Born t i) = (t < events_in z words)
    × (i < copies_of_f (event_at z words t) + copies_of_g (event_at z words t))

-- no ticket rewrote it
abbrev pub IsUntouched : Parts → List ℕ → NodeName → Type 0
IsUntouched z words x = (t : ℕ) (e : Entry) → slice_get (journal_in z words) t ≡ Some e → (e.first ≢ x) × (e.second ≢ x)

-- The words stand for this net, whose nodes are those that were made and that no ticket rewrote.
pub record WordsStandFor (w : ClosedTable) (net : NamedNet NodeName) (reached : ℕ → Bool) : Type 0 where
  pub wide : length w.words ≡ table_size w.plan.parts
  pub small : IsSmall w.plan.parts
  pub is_net : IsNet net
  pub ports : net.free_ports ≡ w.plan.parts.free
  pub live : (x : NodeName) → ((k : Kind) × (i : ℕ) × HasNode net x k i) ↔
      (IsMadeNode w.plan.parts w.words x × IsUntouched w.plan.parts w.words x)
  pub names : (x : NodeName) (k : Kind) (i : ℕ) → HasNode net x k i
      → IsPlaced w.plan.parts (events_in w.plan.parts w.words) x
  pub indexes : (x : NodeName) (k : Kind) (i : ℕ) → HasNode net x k i → i ≤ 1000000 + events_in w.plan.parts w.words
  pub erasers : (x : NodeName) (k : Kind) (i : ℕ) → HasNode net x k i → is_eraser k ≡ true → i ≡ 0
  -- each word behind the ticket word and the live word holds a whole reference of something that
  -- was made, or nothing; the words of a cell hold nodes
  pub refs : (n : ℕ) → 1 < n → slice_index w.words n ≢ 0
      → IsRef (slice_index w.words n) × IsWholeRef (slice_index w.words n)
      × (place_in (slice_index w.words n) < block w.plan.parts (events_in w.plan.parts w.words))
  pub cells : (n : ℕ) → part_of_word w.plan.parts n ≡ left → slice_index w.words n ≢ 0
      → IsNodeRef (slice_index w.words n) × IsNodeRef (slice_index w.words (suc n))
  pub wires : (n : ℕ) → reached n ≡ true → IsWirePart (part_of_word w.plan.parts n)
  pub stands : StandsForNet w.plan.parts net reached
      (edges_in w.plan.parts net reached w.words (table_size w.plan.parts))

-- they stand for a net after their journal
abbrev pub StandForNet : ClosedTable → Type 0
StandForNet w = (net : NamedNet NodeName) × IsAfter w net × WordsStandFor w net (is_reached_in w)
