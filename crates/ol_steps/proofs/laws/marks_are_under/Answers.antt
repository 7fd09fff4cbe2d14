use Rattle.ol_steps.proofs.MarksUnder.{mark_is_under}
use Rattle.ol_steps.proofs.laws.marks_are_under.Goals as goal

pub returns : goal.returns
returns c = mark_is_under
