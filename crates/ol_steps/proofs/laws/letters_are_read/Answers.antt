use Rattle.ol_steps.proofs.BinderLetters.{letters_are_read}
use Rattle.ol_steps.proofs.laws.letters_are_read.Goals as goal

pub returns : goal.returns
returns c = letters_are_read
