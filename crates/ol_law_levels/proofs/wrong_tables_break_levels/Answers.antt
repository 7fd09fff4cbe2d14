use Rattle.ol_law_levels.proofs.WrongTables.{right_levelled, greater_not, lower_keep}
use Rattle.ol_law_levels.proofs.wrong_tables_break_levels.Goals as goal

pub returns-clause-right : goal.returns-clause-right
returns-clause-right t c = right_levelled

pub returns-clause-greater : goal.returns-clause-greater
returns-clause-greater t c = λ i j L. greater_not i j L

pub returns-clause-lower : goal.returns-clause-lower
returns-clause-lower t c = λ N M e less L. lower_keep N M e less L
