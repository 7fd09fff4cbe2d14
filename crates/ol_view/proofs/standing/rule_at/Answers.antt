use Rattle.ol_view.proofs.AtPlaces.{rule_found, rule_none}
use Rattle.ol_view.proofs.standing.rule_at.Goals as goal

pub returns-clause-found : goal.returns-clause-found
returns-clause-found c = rule_found c.args.text.now c.args.at c.rule_at.result c.rule_at.ensures.read

pub returns-clause-none : goal.returns-clause-none
returns-clause-none c = rule_none c.args.text.now c.args.at c.rule_at.result c.rule_at.ensures.read
