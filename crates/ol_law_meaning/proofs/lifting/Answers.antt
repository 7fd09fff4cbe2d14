-- The law of the lifted term.
use Rattle.ol_law_meaning.proofs.lifting.Goals as goal
use Rattle.ol_law_meaning.proofs.Lifts.{lift_keeps}

pub returns : goal.returns
returns g = λ τ t d i s s' w e. lift_keeps t d i s s' w e
