use Rattle.ol_law_levels.proofs.TermRuns as runs
use Rattle.ol_law_levels.proofs.no_pair_is_stuck.Goals as goal

pub returns-clause-net : goal.returns-clause-net
returns-clause-net c = runs.no_pair_is_stuck

pub returns-clause-graph : goal.returns-clause-graph
returns-clause-graph c = runs.no_pair_of_a_graph_is_stuck

pub returns-clause-order : goal.returns-clause-order
returns-clause-order c = runs.no_pair_is_stuck_in_order
