use Rattle.ol_law_levels.proofs.BlockingIndex as tables
use Rattle.ol_law_levels.proofs.wrong_index_blocks.Goals as goal

pub returns-clause-right : goal.returns-clause-right
returns-clause-right c = tables.right_index_is_unblocked

pub returns-clause-lower : goal.returns-clause-lower
returns-clause-lower c = tables.lower_index_is_blocked
