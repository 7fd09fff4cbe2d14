-- Each degree that leftmost reduction contracts, every reduction contracts.
use Rattle.ol_law_optimality.proofs.families_are_needed.Goals as goal
use Rattle.ol_law_optimality.proofs.HeadNeeded.{each_head_degree_is_needed}
use Rattle.ol_law_optimality.proofs.Needed.{each_degree_is_needed, needed_are_contracted, none_is_shorter}

pub returns-clause-degrees : goal.returns-clause-degrees
returns-clause-degrees c = each_degree_is_needed

pub returns-clause-contracted : goal.returns-clause-contracted
returns-clause-contracted c = needed_are_contracted

pub returns-clause-shorter : goal.returns-clause-shorter
returns-clause-shorter c = none_is_shorter

pub returns-clause-head : goal.returns-clause-head
returns-clause-head c = each_head_degree_is_needed
