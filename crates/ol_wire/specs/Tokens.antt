-- Private: what contracts inside of this crate say of a seat of the kit's table, and of the table.
use Rattle.std.specs.Prelude.{◌≡◌, ◌<◌, ℕ, Bool, [], ◌≤◌}
use Rattle.atomic_table.specs.Seated.{TableId}
use Rattle.ol_wire.specs.declared.plan.Plan.{Plan}
use Rattle.ol_wire.specs.declared.view.View.{View}
use Rattle.ol_wire.specs.Views.{fresh}
use Rattle.ol_wire.specs.Idle.{IsIdle}
use Rattle.atomic_table.specs.declared.shared.Seat.{Seat}
use Rattle.ol_wire.specs.StepPlays.{Seated}
use Rattle.ol_wire.specs.Layout.{table_size, cells_of}
use Rattle.ol_wire.specs.Sizes.{IsSmall}
use Rattle.ol_wire.specs.declared.layout.Parts.{Parts}
use Rattle.ol_wire.specs.Stand.{TableState, SeatState, IsUnder}

-- a seat of the kit's table, which a step is made with
abbrev pub SeatToken : Type 0
SeatToken = Seat (Unit {0}) View

-- it is of this table
abbrev pub IsTokenOf : TableState → SeatToken → Type 0
IsTokenOf b s = (s.table_id ≡ b.table) × IsUnder b.plan s.me.0

-- the same seat, whose view may be another
abbrev pub IsSameSeat : SeatToken → SeatToken → Type 0
IsSameSeat old new = (new.table_id ≡ old.table_id) × (new.me.1 ≡ old.me.1)

-- the seat has done nothing, and stands for so many
abbrev pub IsFreshFor : TableState → SeatState → ℕ → Type 0
IsFreshFor b s n = (s.table ≡ b.table) × (s.view ≡ fresh b.plan.parts b.plan.start.value b.plan.seats n) × (0 < n)

-- between two calls a seat holds nothing, and what it keeps in memory is what its view tells
abbrev pub IsAtRest : Seated → Bool → ℕ → Type 0
IsAtRest me over holds = (me.1 ≡ []) × IsIdle me.0 × (me.0.over ≡ over) × (me.0.holds ≡ holds) × (0 < holds)
    × (me.0.swept ≤ cells_of me.0.parts)

-- the table is as it was told, and small
abbrev pub IsTable : Plan → TableId → Parts → ℕ → Type 0
IsTable p id z seats = (p.parts ≡ z) × (p.seats ≡ seats) × (id.words ≡ table_size z) × (id.slots ≡ 0) × IsSmall z
    × (seats ≤ 64)
