-- A table that no thread shares any more, the journal that its words tell, and the net after it.
use Rattle.std.specs.Prelude.{◌≡◌, ℕ, ◌+◌, ◌*◌, ◌⊎◌, nat_eq, nat_lt, if◌then◌else◌, true, List, []}
use Rattle.std.specs.Prelude.{◌∷◌, Some, slice_index, slice_get, ◌<◌, ◌≤◌, length}
use Rattle.ol_net.specs.declared.parts.Kind.{Kind}
use Rattle.ol_net.specs.Nets.{NamedNet, HasNode, SameNet}
use Rattle.ol_rules.specs.declared.journal.NodeName.{NodeName}
use Rattle.ol_rules.specs.declared.journal.Entry.{Entry}
use Rattle.ol_rules.specs.Listed.{each}
use Rattle.ol_rules.specs.Runs.{IsRun}
use Rattle.ol_wire.specs.declared.layout.Parts.{Parts}
use Rattle.ol_wire.specs.declared.plan.Plan.{Plan}
use Rattle.ol_wire.specs.declared.view.View.{View}
use Rattle.ol_wire.specs.Layout.{block, left_word, cells_of}
use Rattle.ol_wire.specs.Starts.{start_net_of_plan}
use Rattle.ol_wire.specs.Events.{Event, event_of, entry_of}
use Rattle.core.specs.Mem.Slots.{slots_items}
use Rattle.atomic_table.specs.declared.owned.Closed.{Closed}
use Rattle.std.specs.declared.alloc.Global.{Global}

-- its words, and the view of the seat that all seats were joined into
pub record ClosedTable : Type 0 where
  pub plan : Plan
  pub words : List ℕ
  pub view : View

-- what the kit's closed table tells, with the plan and the view of the last seat
abbrev pub closed_of : Closed (Unit {0}) Global → Plan → View → ClosedTable
closed_of c p v = record { plan = p; words = slots_items c.words; view = v }

-- the number of tickets that were drawn below the fuel
abbrev pub events_in : Parts → List ℕ → ℕ
events_in z words = if nat_lt (slice_index words 0) z.fuel then slice_index words 0 else z.fuel

-- the event of a ticket, by the first two words of its block
abbrev pub event_at : Parts → List ℕ → ℕ → Event
event_at z words t = event_of (slice_index words (block z t)) (slice_index words (block z t + 1))

-- the pair of a ticket: the first two words of its block
abbrev pub pair_at : Parts → List ℕ → ℕ → ℕ × ℕ
pair_at z words t = (slice_index words (block z t), slice_index words (block z t + 1))

-- the events, which the tickets were drawn for
abbrev pub log_in : Parts → List ℕ → List Event
log_in z words = each (events_in z words) (λ t. event_at z words t ∷ [])

-- their entries
abbrev pub journal_in : Parts → List ℕ → List Entry
journal_in z words = each (events_in z words) (λ t. entry_of z (event_at z words t) ∷ [])

-- the net after the journal that the words tell
abbrev pub IsAfter : ClosedTable → NamedNet NodeName → Type 0
IsAfter w net = IsRun (start_net_of_plan w.plan) 0 (journal_in w.plan.parts w.words) net

-- the node is one of the two that the entry names
abbrev pub IsOfEntry : NodeName → Entry → Type 0
IsOfEntry x e = (e.first ≡ x) ⊎ (e.second ≡ x)

-- no two entries name one node
abbrev pub NoNodeTwice : List Entry → Type 0
NoNodeTwice journal = (t u : ℕ) (d e : Entry) (x : NodeName) → slice_get journal t ≡ Some d →
    slice_get journal u ≡ Some e
    → IsOfEntry x d → IsOfEntry x e → t ≡ u

-- all events, and their journal
abbrev pub events_drawn : ClosedTable → ℕ
events_drawn w = events_in w.plan.parts w.words

abbrev pub journal_drawn : ClosedTable → List Entry
journal_drawn w = journal_in w.plan.parts w.words

-- the pairs that the tickets were drawn for
abbrev pub pairs_drawn : ClosedTable → List (ℕ × ℕ)
pairs_drawn w = each (events_in w.plan.parts w.words) (λ t. pair_at w.plan.parts w.words t ∷ [])

-- the cell, if it isn't empty
abbrev pub filled_row : ClosedTable → ℕ → List ℕ
filled_row w c = if nat_eq (slice_index w.words (left_word w.plan.parts c)) 0 then [] else c ∷ []

-- those of the cells below n that aren't empty, and those of the start and of the tickets before t
abbrev pub filled_below : ClosedTable → ℕ → List ℕ
filled_below w n = each n (λ c. filled_row w c)

abbrev pub filled_before : ClosedTable → ℕ → List ℕ
filled_before w t = filled_below w (w.plan.parts.cells + 4 * t)

-- the cells that aren't empty, of those of the start and of the tickets that were drawn
abbrev pub cells_filled : ClosedTable → List ℕ
cells_filled w = filled_before w (events_in w.plan.parts w.words)

-- the entry of a ticket
abbrev pub entry_at : ClosedTable → ℕ → Entry
entry_at w t = entry_of w.plan.parts (event_at w.plan.parts w.words t)

-- what holds of each net after the journal
abbrev pub EachAfter : ClosedTable → (NamedNet NodeName → Type 0) → Type 0
EachAfter w P = (net : NamedNet NodeName) → IsAfter w net → P net

-- the nets after the journal are the same
abbrev pub HasOneAfter : ClosedTable → Type 0
HasOneAfter w = (M N : NamedNet NodeName) → IsAfter w M → IsAfter w N → SameNet M N

-- the nodes that these entries name are not in the net
abbrev pub AreGone : List Entry → NamedNet NodeName → Type 0
AreGone journal net = (t : ℕ) (e : Entry) (x : NodeName) → slice_get journal t ≡ Some e → IsOfEntry x e
    → (k : Kind) (i : ℕ) → HasNode net x k i → ⊥

-- the blocks of tickets that weren't drawn are empty
abbrev pub IsEmptyUndrawn : ClosedTable → Type 0
IsEmptyUndrawn w = (n : ℕ) → block w.plan.parts (events_drawn w) ≤ n → slice_index w.words n ≡ 0

-- as many tickets were drawn as there are
abbrev pub IsFuelUsed : ClosedTable → Type 0
IsFuelUsed w = events_drawn w ≡ w.plan.parts.fuel

-- the seat has swept all cells
abbrev pub HasSweptAll : ClosedTable → Type 0
HasSweptAll w = w.view.swept ≡ cells_of w.plan.parts

-- the seat, or one that was joined to it, has read 0 in the live word
abbrev pub HasSettled : ClosedTable → Type 0
HasSettled w = w.view.settled ≡ true

-- there is a word of that number, and this is it
abbrev pub HasWord : List ℕ → ℕ → ℕ → Type 0
HasWord words at x = (at < length words) × (x ≡ slice_index words at)
