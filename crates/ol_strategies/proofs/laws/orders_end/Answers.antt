use Rattle.ol_strategies.proofs.Finals.{no_next_is_end, end_is_one, stuck_at_free_name}
use Rattle.ol_strategies.proofs.laws.orders_end.Goals as goal

pub returns-clause-ends : goal.returns-clause-ends
returns-clause-ends c = no_next_is_end

pub returns-clause-one : goal.returns-clause-one
returns-clause-one c = end_is_one

pub returns-clause-stuck : goal.returns-clause-stuck
returns-clause-stuck c = stuck_at_free_name
