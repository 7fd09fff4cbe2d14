-- The law of head normal forms of convertible terms.
use Rattle.ol_law_confluence.proofs.heads.Goals as goal
use Rattle.ol_law_confluence.proofs.HeadForms.{heads_agree_of, ends, has_form, no_form, forever_none}

pub returns-clause-agree : goal.returns-clause-agree
returns-clause-agree g = λ t u c n m y z Ps Qs h k r s. heads_agree_of c n m y z Ps Qs h k r s

pub returns-clause-ends : goal.returns-clause-ends
returns-clause-ends g = λ t. (λ h. ends h, λ r. has_form r)

pub returns-clause-endless : goal.returns-clause-endless
returns-clause-endless g = λ t. (λ f. no_form t f, λ f h. forever_none t f h)
