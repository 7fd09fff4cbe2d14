use Rattle.ol_steps.proofs.Unchanged.{no_let_same_answer}
use Rattle.ol_steps.proofs.laws.no_let_same_answer.Goals as goal

pub returns : goal.returns
returns c = no_let_same_answer
