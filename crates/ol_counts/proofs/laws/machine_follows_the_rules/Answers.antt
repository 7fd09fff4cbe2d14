-- The machine follows the rules of call-by-need, and what is by the rules it counts.
use Rattle.ol_counts.proofs.laws.machine_follows_the_rules.Goals as goal
use Rattle.ol_counts.proofs.Textbook.{machine_is_by_rules, rules_are_followed}

pub returns-clause-rules : goal.returns-clause-rules
returns-clause-rules c = machine_is_by_rules

pub returns-clause-followed : goal.returns-clause-followed
returns-clause-followed c = rules_are_followed
