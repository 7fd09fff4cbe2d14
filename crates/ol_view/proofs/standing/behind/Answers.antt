use Rattle.ol_view.proofs.AtPlaces.{byte_found, byte_none}
use Rattle.ol_view.proofs.standing.behind.Goals as goal

pub returns-clause-found : goal.returns-clause-found
returns-clause-found c = byte_found c.args.text.now c.args.at c.args.byte c.behind.result c.behind.ensures.read

pub returns-clause-none : goal.returns-clause-none
returns-clause-none c = byte_none c.args.text.now c.args.at c.args.byte c.behind.result c.behind.ensures.read
