use Rattle.std.proofs.Common.{false}
use Rattle.ol_steps.proofs.LetteredTexts.{lettered_text}
use Rattle.ol_steps.proofs.laws.lettered_is_text.Goals as goal

pub returns : goal.returns
returns c = λ names t. lettered_text names false 0 t
