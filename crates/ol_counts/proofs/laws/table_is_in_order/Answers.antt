-- The columns of a table are in order.
use Rattle.ol_counts.proofs.ColumnsInOrder.{table_is_in_order}
use Rattle.ol_counts.proofs.laws.table_is_in_order.Goals as goal

pub returns : goal.returns
returns c = table_is_in_order
