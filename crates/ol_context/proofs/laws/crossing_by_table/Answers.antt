use Rattle.ol_context.proofs.Table.{by_table}
use Rattle.ol_context.proofs.laws.crossing_by_table.Goals as goal

pub returns : goal.returns
returns c = by_table
