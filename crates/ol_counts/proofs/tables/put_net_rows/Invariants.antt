use Rattle.std.proofs.Common.{◌≡◌, ◌++◌, drop}
use Rattle.std.specs.List.{flat_map}
use Rattle.ol_counts.specs.Tables.{net_rows, row_text}
use Rattle.ol_counts.proofs.tables.put_net_rows.Given as goal

-- with the rows that are left it is the whole
abbrev pub invariant-loop-row : goal.invariant-loop-row
invariant-loop-row l = l.text.items ++ flat_map (row_text l.columns) (drop l.row-index net_rows)
    ≡ l.fn.text.items ++ flat_map (row_text l.columns) net_rows
