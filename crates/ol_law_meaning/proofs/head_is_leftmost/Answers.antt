-- The laws of head steps and beta steps.
use Rattle.ol_law_meaning.proofs.head_is_leftmost.Goals as goal
use Rattle.ol_law_meaning.proofs.LeftmostSteps.{leftmost_step, subst_is}
use Rattle.ol_law_meaning.proofs.HeadSteps.{contraction, step_of, as_steps, reduces}
use Rattle.ol_law_meaning.proofs.Endless.{any_number, never_ends}

pub returns-clause-step : goal.returns-clause-step
returns-clause-step g = λ t t' h. leftmost_step h

pub returns-clause-head : goal.returns-clause-head
returns-clause-head g = λ t t'. (λ h. contraction h, λ r. step_of r.1 r.2)

pub returns-clause-row : goal.returns-clause-row
returns-clause-row g = λ t u. (λ r. as_steps r, λ s. reduces s.1)

pub returns-clause-endless : goal.returns-clause-endless
returns-clause-endless g = λ t. (λ f m. any_number f m, λ f. never_ends f)

pub returns-clause-same : goal.returns-clause-same
returns-clause-same g = λ t N i. subst_is t N i
