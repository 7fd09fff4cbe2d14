-- Private: what two more steps of a turn tell: the look at a field, and the step that puts a claimed pair back.
use Rattle.std.specs.Prelude.{◌≡◌, ℕ}
use Rattle.ol_law_edges.specs.Edges.{IsIn}
use Rattle.ol_wire.specs.declared.plan.Plan.{Plan}
use Rattle.ol_wire.specs.Rule.{KnowsPlan}
use Rattle.ol_wire.specs.Moments.{MomentHolding}
use Rattle.ol_wire.specs.StepPlays.{Play, reads_reference, returned}

-- a look that agrees with what the seat knows of that word already
abbrev pub reads_field : Play
reads_field s m r n = reads_reference s m r n × ((y : ℕ) → IsIn (s.word, y) m.0.known → y ≡ r)

-- the pair is in its cell again, at a moment
abbrev pub returns : Play
returns s m r n = (n.1 ≡ m.1) × (n.0 ≡ returned m.0) × ((p : Plan) → KnowsPlan p m.0 → MomentHolding p s.word n.0)
