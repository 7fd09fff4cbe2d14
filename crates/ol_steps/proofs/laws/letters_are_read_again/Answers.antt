use Rattle.ol_steps.proofs.LettersRead.{letters_read_again, folded_letters_read_again}
use Rattle.ol_steps.proofs.laws.letters_are_read_again.Goals as goal

pub returns-clause-plain : goal.returns-clause-plain
returns-clause-plain c = letters_read_again

pub returns-clause-folded : goal.returns-clause-folded
returns-clause-folded c = folded_letters_read_again
