use Rattle.std.proofs.Common.{◌≡◌, ◌++◌, drop}
use Rattle.std.specs.List.{flat_map}
use Rattle.ol_counts.specs.Objects.{net_member}
use Rattle.ol_counts.specs.Tables.{net_rows}
use Rattle.ol_counts.proofs.objects.put_net_members.Given as goal

-- with the members of the rows that are left it is the whole
abbrev pub invariant-loop-row : goal.invariant-loop-row
invariant-loop-row l = l.text.items ++ flat_map (net_member l.counts l.stuck l.read) (drop l.row-index net_rows)
    ≡ l.fn.text.items ++ flat_map (net_member l.counts l.stuck l.read) net_rows
