-- Private: that closed words are those of a table that met its rule.
use Rattle.std.specs.Prelude.{◌≡◌, ℕ}
use mathlib.Core.Option.{some}
use lib.ListN.{get_elem?}
use Rattle.core.specs.Mem.Slots.{slots_len, IsFull}
use Rattle.atomic_table.specs.declared.owned.Closed.{Closed}
use Rattle.ol_wire.specs.declared.layout.Parts.{Parts}
use Rattle.ol_wire.specs.declared.plan.Plan.{Plan}
use Rattle.ol_wire.specs.declared.view.View.{View}
use Rattle.ol_wire.specs.Layout.{table_size}
use Rattle.ol_wire.specs.Sizes.{IsSmall}
use Rattle.ol_wire.specs.Closed.{ClosedTable, closed_of}
use Rattle.ol_wire.specs.Idle.{IsIdle}
use Rattle.ol_wire.specs.Rule.{Table, Kept}
use Rattle.ol_wire.specs.Credit.{Credited}
use Rattle.std.specs.declared.alloc.Global.{Global}

-- All seats of the table stood in the one with this view, which held nothing.
pub record IsClosed (w : ClosedTable) : Type 0 where
  pub table : Table
  pub kept : Kept w.plan table
  pub credit : Credited w.plan table
  pub words : table.words ≡ w.words
  pub id : ℕ
  pub seat : get_elem? table.views id ≡ some w.view
  pub all : w.view.holds ≡ w.plan.seats
  pub idle : IsIdle w.view

-- each word is there, as many as the parts say
abbrev pub IsClosedOf : Closed (Unit {0}) Global → Plan → Parts → View → Type 0
IsClosedOf c p z v = IsFull c.words × (p.parts ≡ z) × (slots_len c.words ≡ table_size z)
    × (slots_len c.slots ≡ 0) × IsSmall z
    × IsClosed (closed_of c p v)
