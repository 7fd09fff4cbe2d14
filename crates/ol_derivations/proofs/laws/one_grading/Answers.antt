use Rattle.ol_derivations.proofs.OneAnswer.{one_grading}
use Rattle.ol_derivations.proofs.laws.one_grading.Goals as goal

pub returns : goal.returns
returns c = one_grading
