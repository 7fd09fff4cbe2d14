-- A table in which nothing is under way, and no cell holds an active pair.
use Rattle.std.specs.Prelude.{◌≡◌, ◌≢◌, ℕ, suc, ◌<◌, ◌⊎◌, [], slice_index}
use Rattle.ol_net.specs.Pairs.{IsComplete}
use Rattle.ol_wire.specs.declared.plan.Plan.{Plan}
use Rattle.ol_wire.specs.declared.view.View.{View}
use Rattle.ol_wire.specs.Layout.{left_word, cells_of}
use Rattle.ol_wire.specs.Events.{IsStuckPair}
use Rattle.ol_wire.specs.Rule.{Table, IsView, Kept}
use Rattle.ol_wire.specs.Credit.{Credited}

-- no view has a claimed pair or a link to make
abbrev pub IsSettled : Table → Type 0
IsSettled s = (v : View) → IsView s v → (v.taken ≡ []) × (v.pending ≡ [])

-- no cell holds an active pair
abbrev pub IsStill : Plan → Table → Type 0
IsStill p s = (c : ℕ) → c < cells_of p.parts → slice_index s.words (left_word p.parts c) ≢ 0
    → IsStuckPair (slice_index s.words (left_word p.parts c)) (slice_index s.words (suc (left_word p.parts c)))

-- Then the net of the journal has no active pair: none is hidden behind wires.
abbrev pub NothingIsOverlooked : Type 0
NothingIsOverlooked = (p : Plan) (s : Table) (k : Kept p s) → IsSettled s → IsStill p s → IsComplete k.net

-- Where the net of the journal has no active pair, and no seat that has drawn a ticket owes
-- anything, the live word is 0.
abbrev pub NothingIsOwed : Type 0
NothingIsOwed = (p : Plan) (s : Table) (k : Kept p s) → Credited p s → IsComplete k.net
    → ((v : View) → IsView s v → (v.made ≡ []) ⊎ (v.owed ≡ 0)) → slice_index s.words 1 ≡ 0
