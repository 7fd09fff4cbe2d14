-- The law of the way to the head.
use Rattle.ol_law_meaning.proofs.heading.Goals as goal
use Rattle.ol_law_meaning.proofs.Walking.{head_path, head_only, few, normal_or_step}

pub returns-clause-path : goal.returns-clause-path
returns-clause-path g = λ τ t q a u j c k. (head_path k u c, λ p v d n l. head_only k u c p v d n l)

pub returns-clause-few : goal.returns-clause-few
returns-clause-few g = λ τ t q w c d n m h l. few t q w c d n m h l

pub returns-clause-steps : goal.returns-clause-steps
returns-clause-steps g = λ t. normal_or_step t
