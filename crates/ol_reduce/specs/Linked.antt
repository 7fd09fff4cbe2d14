-- Private: what the steps that find a net's links ask and leave: of the words, the nodes that are
-- left, and the net so far.
use Rattle.std.specs.Prelude.{◌≡◌, ◌≢◌, ℕ, ◌+◌, ◌-◌, ◌*◌, ◌<◌, List, length, slice_index, slice_set}
use Rattle.std.specs.Prelude.{Bool, if◌then◌else◌, ◌++◌, [], ◌∷◌}
use Rattle.ol_net.specs.Linking.{linked}
use Rattle.ol_wire.specs.Layout.{cells_of}
use Rattle.ol_rules.specs.Counting.{counts_of}
use Rattle.ol_wire.specs.Closed.{ClosedTable, events_drawn, journal_drawn}
use Rattle.ol_reduce.specs.declared.live.Live.{Live}
use Rattle.ol_reduce.specs.declared.live.Tally.{Tally}
use Rattle.ol_reduce.specs.declared.draft.Draft.{Draft}
use Rattle.ol_reduce.specs.Left.{ranks_in, AreLeft, AreMarked, births_before}
use Rattle.ol_reduce.specs.Found.{IsPartly, AreMetTo, AreCelledTo, AreListedTo, KeepsKnown, KeepsPartners}

-- what the tickets did: which nodes they rewrote, how many each made, and how often each rule stands in the journal
pub record IsTally (w : ClosedTable) (tally : Tally) : Type 0 where
  pub marks : AreMarked w (events_drawn w) tally.marks.items
  pub births : tally.births.items ≡ births_before w (events_drawn w)
  pub counts : tally.counts ≡ counts_of (journal_drawn w)

-- these are all nodes that are left
abbrev pub AreAllLeft : ClosedTable → Live → Type 0
AreAllLeft w live = AreLeft w (ranks_in w) live.places.items live.numbers.items

-- these are the nodes that are left of the start and of the first t tickets
abbrev pub AreLeftTo : ClosedTable → ℕ → Live → Type 0
AreLeftTo w t live = AreLeft w (w.plan.parts.nodes + 4 * t) live.places.items live.numbers.items

-- one rank more, whose node has this place if it is left
abbrev pub AddsPlace : Live → Bool → ℕ → Live → Type 0
AddsPlace old is_left place new = new.places.items ≡
    (if is_left then old.places.items ++ place ∷ [] else old.places.items)

abbrev pub AddsNumber : Live → Bool → ℕ → Live → Type 0
AddsNumber old is_left rank new = new.numbers.items ≡
    (if is_left then slice_set old.numbers.items rank (length old.places.items + 1) else old.numbers.items)

-- what is known of the net is right
abbrev pub IsRight : ClosedTable → Live → Draft → Type 0
IsRight w live d = IsPartly w live.places.items d.kinds.items d.partners.items

-- and the nodes of all cells, or of the first n, have partners
abbrev pub AreCellsLinked : ClosedTable → Live → Draft → Type 0
AreCellsLinked w live d = AreCelledTo w live.places.items d.partners.items (cells_of w.plan.parts)

abbrev pub HasCells : ClosedTable → Live → Draft → ℕ → Type 0
HasCells w live d n = IsRight w live d × AreCelledTo w live.places.items d.partners.items n

abbrev pub HasListed : ClosedTable → Live → Draft → List ℕ → ℕ → Type 0
HasListed w live d cells k = IsRight w live d × AreListedTo w live.places.items d.partners.items cells k

-- and so have those ports at places below n that own a word, or they wait
abbrev pub HasPorts : ClosedTable → Live → Draft → List ℕ → ℕ → Type 0
HasPorts w live d met n = IsRight w live d × AreMetTo w live.places.items d.partners.items met n

-- all free ports
abbrev pub HasFree : ClosedTable → Live → Draft → List ℕ → Type 0
HasFree w live d met = HasPorts w live d met w.plan.parts.free

-- and the slots of the first n nodes
abbrev pub HasNodes : ClosedTable → Live → Draft → List ℕ → ℕ → Type 0
HasNodes w live d met n = HasPorts w live d met (w.plan.parts.free + 3 * n)

-- all ports
abbrev pub HasAll : ClosedTable → Live → Draft → List ℕ → Type 0
HasAll w live d met = HasPorts w live d met (length d.partners.items)

abbrev pub AreAllMet : ClosedTable → Live → Draft → Type 0
AreAllMet w live d = (met : List ℕ) × AreMetTo w live.places.items d.partners.items met (length d.partners.items)

-- the kinds that were known stay known
abbrev pub KeepsKinds : ClosedTable → Live → Draft → Draft → Type 0
KeepsKinds w live old new = KeepsKnown w live.places.items old.kinds.items new.kinds.items

-- whoever had a partner has one, and there are as many places
abbrev pub KeepsLinks : Draft → Draft → Type 0
KeepsLinks old new = KeepsPartners old.partners.items new.partners.items
    × (length new.partners.items ≡ length old.partners.items)

-- the place is one of the table, and not that of a slot 0
abbrev pub IsOwner : ClosedTable → Draft → ℕ → Type 0
IsOwner w d place = (place < length d.partners.items) × ((n : ℕ) → place ≢ w.plan.parts.free + 3 * n)

-- a port that came to the wire before has a place of the table
abbrev pub IsOtherIn : Draft → List ℕ → ℕ → Type 0
IsOtherIn d met wire = slice_index met wire ≢ 0 → slice_index met wire - 1 < length d.partners.items

-- Where no port came to the wire before, the one at this place waits there.
abbrev pub WaitsThere : Draft → List ℕ → ℕ → ℕ → Draft → List ℕ → Type 0
WaitsThere d met place wire d' met' = slice_index met wire ≡ 0
    → (met' ≡ slice_set met wire (place + 1)) × (d'.partners.items ≡ d.partners.items)

-- Where one came, the two are linked.
abbrev pub MeetsThere : Draft → List ℕ → ℕ → ℕ → Draft → List ℕ → Type 0
MeetsThere d met place wire d' met' = slice_index met wire ≢ 0
    → (met' ≡ met) × (d'.partners.items ≡ linked d.partners.items place (slice_index met wire - 1))
