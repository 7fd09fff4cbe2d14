use Rattle.ol_law_levels.proofs.Examples.{levels_allow_stuck_pairs, unlevelled_pairs_are_crossed}
use Rattle.ol_law_levels.proofs.stuck_examples.Goals as goal

pub returns-clause-levelled : goal.returns-clause-levelled
returns-clause-levelled c = levels_allow_stuck_pairs

pub returns-clause-unlevelled : goal.returns-clause-unlevelled
returns-clause-unlevelled c = unlevelled_pairs_are_crossed
