-- Private: a moment at which a seat looks.
use Rattle.std.specs.Prelude.{◌≡◌, ℕ, slice_index}
use Rattle.ol_wire.specs.declared.plan.Plan.{Plan}
use Rattle.ol_wire.specs.declared.view.View.{View}
use Rattle.ol_wire.specs.StepPlays.{Play}
use Rattle.ol_wire.specs.Rule.{KnowsPlan}
use Rattle.ol_wire.specs.Moments.{Moment}
use Rattle.ol_net.specs.Pairs.{IsComplete}
use Rattle.ol_wire.specs.Plays.{live_read}

-- a moment at which the ticket word was this
abbrev pub MomentWith : Plan → View → ℕ → Type 0
MomentWith p v word = (m : Moment p v) × (slice_index m.table.words 0 ≡ word)

-- a moment at which the live word was this; where it was 0 the net has no active pair
abbrev pub MomentLive : Plan → View → ℕ → Type 0
MomentLive p v word = (m : Moment p v) × (slice_index m.table.words 1 ≡ word) × (word ≡ 0 → IsComplete m.kept.net)

-- A look at the live word.
abbrev pub reads_live : Play
reads_live s m r n = (n.1 ≡ m.1) × (n.0 ≡ live_read m.0 r) × ((p : Plan) → KnowsPlan p m.0 → MomentLive p n.0 r)

-- A look at the ticket word. A step can't read the plan, so that the moment is told for each plan
-- that the view knows, and there is one.
abbrev pub reads_tickets : Play
reads_tickets s m r n = (n.1 ≡ m.1) × (n.0 ≡ m.0) × ((p : Plan) → KnowsPlan p m.0 → MomentWith p m.0 r)
