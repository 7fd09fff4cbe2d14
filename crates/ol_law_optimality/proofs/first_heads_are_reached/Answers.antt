-- Whole families lead to the first heads, and no way is shorter.
use Rattle.ol_law_optimality.proofs.first_heads_are_reached.Goals as goal
use Rattle.ol_law_optimality.proofs.FirstHeadsReached.{fewest_for_heads, none_is_shorter_than_needed}

pub returns-clause-reached : goal.returns-clause-reached
returns-clause-reached c = fewest_for_heads

pub returns-clause-shorter : goal.returns-clause-shorter
returns-clause-shorter c = none_is_shorter_than_needed
