-- Demand order makes no more beta steps than call-by-need by its rules.
use Rattle.ol_counts.proofs.laws.call_by_need_by_rules.Goals as goal
use Rattle.ol_counts.proofs.Textbook.{rules_give_the_normal_form, rules_find_the_normal_form, rules_are_no_more_than_leftmost, call_by_need_by_rules}

pub returns-clause-form : goal.returns-clause-form
returns-clause-form c = rules_give_the_normal_form

pub returns-clause-found : goal.returns-clause-found
returns-clause-found c = rules_find_the_normal_form

pub returns-clause-leftmost : goal.returns-clause-leftmost
returns-clause-leftmost c = rules_are_no_more_than_leftmost

pub returns-clause-demand : goal.returns-clause-demand
returns-clause-demand c = call_by_need_by_rules
