-- The law of the cut and the new term.
use Rattle.ol_law_meaning.proofs.cutting.Goals as goal
use Rattle.ol_law_meaning.proofs.There.{there, there_back}
use Rattle.ol_law_meaning.proofs.Back.{back_on, back_off}

pub returns-clause-there : goal.returns-clause-there
returns-clause-there g = λ τ N M i c c' z n h.
    (λ e. (let r = there e h in (r.spot, r.held, r.trail)), λ e. (let r = there_back e h in (r.spot, r.held, r.trail)))

pub returns-clause-back : goal.returns-clause-back
returns-clause-back g = λ τ N M i c z z' n h. (
  λ e. (let r = back_on M e h in (r.cut, r.held, r.trail)),
  λ e. (let r = back_off M e h in (r.cut, r.held, r.trail)),
)
