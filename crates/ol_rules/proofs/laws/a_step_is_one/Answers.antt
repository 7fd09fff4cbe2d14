use Rattle.ol_rules.proofs.Relation.{rewrites_same, one_result, one_step}
use Rattle.ol_rules.proofs.laws.a_step_is_one.Goals as goal

pub returns-clause-same : goal.returns-clause-same
returns-clause-same t c = λ born M N P f g k i l a s r. rewrites_same born f g k i l a M N P s r

pub returns-clause-one : goal.returns-clause-one
returns-clause-one t c = λ born N P Q f g k i l a r s. one_result born f g k i l a N P Q r s

pub returns-clause-step : goal.returns-clause-step
returns-clause-step t c = λ born M N P Q f g r s n m first second. one_step born M N P Q f g r s n m first second
