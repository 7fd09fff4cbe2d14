use Rattle.ol_diamond.proofs.laws.complete_runs_agree.Goals as goal
use Rattle.ol_rules.specs.Counting.{is_rule}
use Rattle.ol_diamond.specs.Runs.{BirthPair}
use Rattle.std.proofs.Common.{ap}
use Rattle.ol_diamond.proofs.Confluence as laws

pub returns-clause-pairs : goal.returns-clause-pairs
returns-clause-pairs c = laws.complete_runs_have_one_pairs

pub returns-clause-net : goal.returns-clause-net
returns-clause-net c = laws.complete_runs_leave_one_net

pub returns-clause-counts : goal.returns-clause-counts
returns-clause-counts c = λ N M P ps qs b r d r' d' rule.
    laws.complete_runs_have_one_pairs N M P ps qs b r d r' d'
    (λ (p : BirthPair). is_rule p.rule rule) (λ p q same. ap (λ x. is_rule x rule) same.0)
