use Rattle.ol_steps.proofs.Rows.{lets_differ, values_are_closed}
use Rattle.ol_steps.proofs.laws.lets_differ.Goals as goal

pub returns-clause-names : goal.returns-clause-names
returns-clause-names c = lets_differ

pub returns-clause-values : goal.returns-clause-values
returns-clause-values c = values_are_closed
