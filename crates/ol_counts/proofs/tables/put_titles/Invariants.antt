use Rattle.std.proofs.Common.{◌≡◌, ◌++◌, drop}
use Rattle.std.specs.List.{flat_map}
use Rattle.ol_counts.specs.Tables.{head}
use Rattle.ol_counts.proofs.tables.put_titles.Given as goal

-- with the titles that are left it is the whole
abbrev pub invariant-loop-column : goal.invariant-loop-column
invariant-loop-column l = l.text.items ++ flat_map head (drop l.column-index l.columns)
    ≡ l.fn.text.items ++ flat_map head l.columns
