use Rattle.ol_law_optimality.proofs.betas_are_virtual_redexes.Goals as goal
use Rattle.ol_law_optimality.proofs.Virtual as virtual

pub returns-clause-each : goal.returns-clause-each
returns-clause-each c = virtual.each_beta_is_virtual

pub returns-clause-all : goal.returns-clause-all
returns-clause-all c = virtual.betas_are_virtual_redexes

pub returns-clause-term : goal.returns-clause-term
returns-clause-term c = virtual.betas_of_a_term
