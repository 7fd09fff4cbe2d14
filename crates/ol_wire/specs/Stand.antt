-- A table and a seat as contracts see them.
use Rattle.std.specs.Prelude.{◌≡◌, ◌<◌}
use Rattle.atomic_table.specs.Seated.{TableId}
use Rattle.ol_wire.specs.declared.plan.Plan.{Plan}
use Rattle.ol_wire.specs.declared.view.View.{View}
use Rattle.ol_wire.specs.Views.{fresh}

-- which table it is, and what it was told when it was made
pub record TableState : Type 0 where
  pub table : TableId
  pub plan : Plan

-- which table the seat is of, and what it has done and holds
pub record SeatState : Type 0 where
  pub table : TableId
  pub view : View

-- the view is that of a seat of a table with this plan
abbrev pub IsUnder : Plan → View → Type 0
IsUnder p v = (v.parts ≡ p.parts) × (v.seats ≡ p.seats) × (0 < v.holds) × (v.start ≡ p.start.value)

-- the seat is of this table
abbrev pub IsSeatOf : TableState → SeatState → Type 0
IsSeatOf b s = (s.table ≡ b.table) × IsUnder b.plan s.view

-- and it is one seat that has done nothing
abbrev pub IsNewSeat : TableState → SeatState → Type 0
IsNewSeat b s = (s.table ≡ b.table) × (s.view ≡ fresh b.plan.parts b.plan.start.value b.plan.seats 1)
