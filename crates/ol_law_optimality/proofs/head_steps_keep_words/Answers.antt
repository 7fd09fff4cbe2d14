-- A labelled head step keeps words.
use Rattle.ol_law_optimality.proofs.head_steps_keep_words.Goals as goal
use Rattle.ol_law_optimality.proofs.HeadWords.{head_steps_keep_words, words_are_degrees}
use Rattle.ol_law_optimality.proofs.Leading.{head_is_leftmost, degrees_are_met}

pub returns-clause-kept : goal.returns-clause-kept
returns-clause-kept c = head_steps_keep_words

pub returns-clause-degrees : goal.returns-clause-degrees
returns-clause-degrees c = words_are_degrees

pub returns-clause-met : goal.returns-clause-met
returns-clause-met c = degrees_are_met

pub returns-clause-leftmost : goal.returns-clause-leftmost
returns-clause-leftmost c = head_is_leftmost
