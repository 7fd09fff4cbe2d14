-- Private: the nodes that are left, and their numbers. Ranks have the order of places: first the
-- start nodes, and then four for each ticket.
use Rattle.std.specs.Prelude.{◌≡◌, ℕ, ◌+◌, ◌-◌, ◌*◌, ◌/◌, ◌%◌, ◌<◌, ◌≤◌, nat_lt, if◌then◌else◌}
use Rattle.std.specs.Prelude.{Bool, true, List, [], ◌∷◌, length, slice_index, slice_get, Some, ◌⊎◌, ◌↔◌}
use Rattle.ol_net.specs.declared.parts.Rule.{Rule}
use Rattle.ol_net.specs.Parts.{arity}
use Rattle.ol_rules.specs.Listed.{each}
use Rattle.ol_rules.specs.Rewriting.{is_meeting}
use Rattle.ol_rules.specs.declared.journal.NodeName.{NodeName}
use Rattle.ol_rules.specs.declared.journal.NodeName.TheVariants.{Init, Born}
use Rattle.ol_rules.specs.declared.journal.Entry.{Entry}
use Rattle.ol_wire.specs.declared.layout.Parts.{Parts}
use Rattle.ol_wire.specs.Layout.{place_of, IsPlaced, table_size}
use Rattle.ol_wire.specs.Closed.{ClosedTable, events_in, journal_in, event_at, events_drawn}
use Rattle.ol_wire.specs.Standing.{IsMadeNode, IsUntouched}
use Rattle.ol_wire.specs.References.{kind_in}
use Rattle.ol_wire.specs.Blocks.{copies_of_f, copies_of_g}
use Rattle.ol_wire.specs.Sizes.{IsSmall}

abbrev pub rank_of : Parts → NodeName → ℕ
rank_of z (Init k) = k
rank_of z (Born t i) = z.nodes + 4 * t + i

abbrev pub name_of_rank : Parts → ℕ → NodeName
name_of_rank z r = if nat_lt r z.nodes then Init r else Born ((r - z.nodes) / 4) ((r - z.nodes) % 4)

abbrev pub ranks_in : ClosedTable → ℕ
ranks_in w = w.plan.parts.nodes + 4 * events_in w.plan.parts w.words

abbrev pub IsLeft : ClosedTable → NodeName → Type 0
IsLeft w x = IsMadeNode w.plan.parts w.words x × IsUntouched w.plan.parts w.words x

-- an entry before ticket t names x
abbrev pub IsNamedBefore : ClosedTable → ℕ → NodeName → Type 0
IsNamedBefore w t x = (u : ℕ) × (e : Entry) × (u < t) × (slice_get (journal_in w.plan.parts w.words) u ≡ Some e)
    × ((e.first ≡ x) ⊎ (e.second ≡ x))

-- `marks` tells by rank which nodes the entries before ticket t name
pub record AreMarked (w : ClosedTable) (t : ℕ) (marks : List Bool) : Type 0 where
  pub long : length marks ≡ ranks_in w
  pub marked : (x : NodeName) → IsPlaced w.plan.parts (events_in w.plan.parts w.words) x
      → (slice_get marks (rank_of w.plan.parts x) ≡ Some true) ↔ IsNamedBefore w t x

-- The places of the nodes that are left, of those of the first n ranks, in order. `numbers` has a
-- place for each rank: there 1 more than the number of the node, where it is left.
pub record AreLeft (w : ClosedTable) (n : ℕ) (places numbers : List ℕ) : Type 0 where
  pub long : length numbers ≡ ranks_in w
  pub few : length places ≤ n
  pub each : (j : ℕ) → j < length places
      → (r : ℕ) × (r < n) × IsLeft w (name_of_rank w.plan.parts r)
      × (slice_index places j ≡ place_of w.plan.parts (name_of_rank w.plan.parts r))
  pub rising : (j k : ℕ) → j < k → k < length places → slice_index places j < slice_index places k
  pub found : (r : ℕ) → r < n → IsLeft w (name_of_rank w.plan.parts r) →
      (0 < slice_index numbers r) × (slice_index numbers r ≤ length places)
      × (slice_index places (slice_index numbers r - 1) ≡ place_of w.plan.parts (name_of_rank w.plan.parts r))

-- how many nodes a ticket made
abbrev pub births_at : ClosedTable → ℕ → ℕ
births_at w t = copies_of_f (event_at w.plan.parts w.words t) + copies_of_g (event_at w.plan.parts w.words t)

-- the same, by the rule and the two nodes that it rewrote
abbrev pub births_by : Rule → (one other : ℕ) → ℕ
births_by rule one other = if is_meeting rule then 0 else arity (kind_in one) + arity (kind_in other)

-- how many each of the tickets before t made
abbrev pub births_before : ClosedTable → ℕ → List ℕ
births_before w t = each t (λ u. births_at w u ∷ [])

-- the parts are small, and there are as many words as they say
abbrev pub IsSmallTable : ClosedTable → Type 0
IsSmallTable w = IsSmall w.plan.parts × (length w.words ≡ table_size w.plan.parts)

-- at most as many tickets were drawn as there are
abbrev pub IsWithinFuel : ClosedTable → Type 0
IsWithinFuel w = events_drawn w ≤ w.plan.parts.fuel

-- beside those that were marked before, the node of that name is
abbrev pub IsMarkedToo : Parts → ℕ → List Bool → NodeName → List Bool → Type 0
IsMarkedToo z events old name new = (x : NodeName) → IsPlaced z events x
    → (slice_get new (rank_of z x) ≡ Some true) ↔ ((slice_get old (rank_of z x) ≡ Some true) ⊎ (name ≡ x))

-- the node has this name, by its place or by its rank
abbrev pub IsPlaceOfSome : Parts → ℕ → Type 0
IsPlaceOfSome z place = (x : NodeName) × IsPlaced z z.fuel x × (place ≡ place_of z x)

abbrev pub IsRankAt : Parts → ℕ → ℕ → Type 0
IsRankAt z place rank = (x : NodeName) → IsPlaced z z.fuel x → place ≡ place_of z x → rank ≡ rank_of z x

abbrev pub IsRankOf : Parts → ℕ → NodeName → ℕ → Type 0
IsRankOf z events name rank = IsPlaced z events name × (rank ≡ rank_of z name)

-- the place of a node that is left
abbrev pub IsPlaceLeft : ClosedTable → ℕ → Type 0
IsPlaceLeft w place = (x : NodeName) × IsPlaced w.plan.parts (events_drawn w) x × IsLeft w x
    × (place ≡ place_of w.plan.parts x)
