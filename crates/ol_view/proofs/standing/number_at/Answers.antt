use Rattle.ol_view.proofs.AtPlaces.{number_found, number_none}
use Rattle.ol_view.proofs.standing.number_at.Goals as goal

pub returns-clause-found : goal.returns-clause-found
returns-clause-found c = number_found c.args.text.now c.args.at c.number_at.result c.number_at.ensures.read

pub returns-clause-none : goal.returns-clause-none
returns-clause-none c = number_none c.args.text.now c.args.at c.number_at.result c.number_at.ensures.read
