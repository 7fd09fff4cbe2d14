use Rattle.ol_reduce.proofs.Turns as turns
use Rattle.ol_reduce.proofs.answers.turns_tell.Goals as goal

pub returns : goal.returns
returns c = turns.turns_tell
