use Rattle.ol_view.proofs.AtPlaces.{name_found, name_none}
use Rattle.ol_view.proofs.standing.name_at.Goals as goal

pub returns-clause-found : goal.returns-clause-found
returns-clause-found c = name_found c.args.text.now c.args.at c.name_at.result c.name_at.ensures.read

pub returns-clause-none : goal.returns-clause-none
returns-clause-none c = name_none c.args.text.now c.args.at c.name_at.result c.name_at.ensures.read
