use Rattle.std.proofs.Common.{◌≡◌, drop}
use Rattle.ol_view.specs.LineReading.{front_rule_of, front_rule, all_rules}
use Rattle.ol_view.proofs.line_reading.rule_at.Given as goal

-- no rule before this one has its name here
abbrev pub invariant-loop-rule : goal.invariant-loop-rule
invariant-loop-rule l = front_rule_of (drop l.rule-index all_rules) (drop l.at l.text) ≡ front_rule (drop l.at l.text)
