use Rattle.ol_context.proofs.Short.{short}
use Rattle.ol_context.proofs.Turning.{turns_once, goes_on}
use Rattle.ol_readback.proofs.Enough.{few_are_enough}
use Rattle.ol_readback.proofs.laws.walk_is_short.Goals as goal

pub returns-clause-turns_once : goal.returns-clause-turns_once
returns-clause-turns_once g c = λ n is_net apart p a k u d w. turns_once n is_net apart p w

pub returns-clause-short : goal.returns-clause-short
returns-clause-short g c = λ n is_net apart p a q d r. short n is_net apart p a q d r

pub returns-clause-goes_on : goal.returns-clause-goes_on
returns-clause-goes_on g c = λ n is_net apart p a edges b s k. goes_on n is_net apart p a edges b s k

pub returns-clause-enough : goal.returns-clause-enough
returns-clause-enough g c = few_are_enough
