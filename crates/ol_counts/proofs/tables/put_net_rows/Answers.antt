use Rattle.ol_counts.specs.declared.tables.Row.TheVariants as row
use Rattle.ol_counts.specs.Tables.{net_rows, row_text}
use Rattle.ol_counts.proofs.RowOn.{row_on}
use Rattle.ol_counts.proofs.tables.put_net_rows.Goals as goal

pub loop-row-preserved : goal.loop-row-preserved
loop-row-preserved c = row_on (row_text c.args.columns.now) net_rows c.loop-row.row-index row.Beta
    c.loop-row.text.items c.put_row.new.text.items _ c.loop-row-test.true c.loop-row.invariant c.in_ok-put_row.ensures
