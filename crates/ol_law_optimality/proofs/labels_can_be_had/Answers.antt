-- Each term can have its labels, and leftmost reduction goes on with them.
use Rattle.ol_law_optimality.proofs.labels_can_be_had.Goals as goal
use Rattle.ol_law_optimality.proofs.Labelling.{each_term_has_letters, leftmost_is_labelled, labelled_is_leftmost}

pub returns-clause-letters : goal.returns-clause-letters
returns-clause-letters c = each_term_has_letters

pub returns-clause-steps : goal.returns-clause-steps
returns-clause-steps c = leftmost_is_labelled

pub returns-clause-erased : goal.returns-clause-erased
returns-clause-erased c = labelled_is_leftmost
