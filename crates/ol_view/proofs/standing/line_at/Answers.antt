use Rattle.ol_view.proofs.AtPlaces.{line_found, line_none}
use Rattle.ol_view.proofs.standing.line_at.Goals as goal

pub returns-clause-found : goal.returns-clause-found
returns-clause-found c = line_found c.args.form c.args.text.now c.args.at c.line_at.result c.line_at.ensures.read

pub returns-clause-none : goal.returns-clause-none
returns-clause-none c = line_none c.args.form c.args.text.now c.args.at c.line_at.result c.line_at.ensures.read
