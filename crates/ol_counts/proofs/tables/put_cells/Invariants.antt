use Rattle.std.proofs.Common.{◌≡◌, ◌++◌, drop}
use Rattle.std.specs.List.{flat_map}
use Rattle.ol_counts.specs.Tables.{cell}
use Rattle.ol_counts.proofs.tables.put_cells.Given as goal

-- with the cells that are left it is the whole
abbrev pub invariant-loop-column : goal.invariant-loop-column
invariant-loop-column l = l.text.items ++ flat_map (cell l.row) (drop l.column-index l.columns)
    ≡ l.fn.text.items ++ flat_map (cell l.row) l.columns
