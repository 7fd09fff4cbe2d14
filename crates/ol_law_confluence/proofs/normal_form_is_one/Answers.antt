-- The law of normal forms.
use Rattle.ol_law_confluence.proofs.normal_form_is_one.Goals as goal
use Rattle.ol_law_confluence.proofs.Meetings.{normal_one, leads_there}

pub returns-clause-one : goal.returns-clause-one
returns-clause-one g = λ t u v k l n m. normal_one k l n m

pub returns-clause-reduct : goal.returns-clause-reduct
returns-clause-reduct g = λ t u v l n k. leads_there l n k
