use Rattle.ol_context.proofs.Contexts.{commute, pull, injective}
use Rattle.ol_context.proofs.laws.contexts_commute.Goals as goal

pub returns-clause-commute : goal.returns-clause-commute
returns-clause-commute c = commute

pub returns-clause-pull : goal.returns-clause-pull
returns-clause-pull c = pull

pub returns-clause-injective : goal.returns-clause-injective
returns-clause-injective c = injective
