use Rattle.std.proofs.Common.{rules}
use Rattle.ol_counts.specs.declared.tables.Row.TheVariants as row
use Rattle.ol_counts.specs.Objects.{net_member}
use Rattle.ol_counts.specs.Tables.{net_rows}
use Rattle.ol_counts.proofs.RowOn.{row_on}
use Rattle.ol_counts.proofs.objects.put_net_members.Goals as goal

pub loop-row-preserved : goal.loop-row-preserved
loop-row-preserved c = row_on (net_member c.args.counts c.args.stuck c.args.read) net_rows c.loop-row.row-index row.Beta
    c.loop-row.text.items c.put_net_member.new.text.items _ c.loop-row-test.true c.loop-row.invariant
    (search (rules))
