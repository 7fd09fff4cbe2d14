-- Demand order makes no more beta steps than leftmost reduction.
use Rattle.ol_law_optimality.proofs.never_more_than_leftmost.Goals as goal
use Rattle.ol_law_optimality.proofs.Never as never

pub returns-clause-leftmost : goal.returns-clause-leftmost
returns-clause-leftmost c = never.never_more_than_leftmost

pub returns-clause-front : goal.returns-clause-front
returns-clause-front c = never.never_more_on_the_way

pub returns-clause-head : goal.returns-clause-head
returns-clause-head c = never.never_more_than_head

pub returns-clause-printed : goal.returns-clause-printed
returns-clause-printed c = never.never_more_where_printed

pub returns-clause-seen : goal.returns-clause-seen
returns-clause-seen c = never.seen_on_places_is_few
