use Rattle.std.proofs.Common.{drop}
use Rattle.ol_view.specs.LineReading.{all_rules}
use Rattle.ol_explain.specs.declared.wanting.Field.TheVariants as field
use Rattle.ol_explain.specs.Fields.{Begins}
use Rattle.ol_explain.proofs.Rules.{OneBegins}
use Rattle.ol_explain.proofs.wanting.rule_begins.Given as goal

-- no rule before this one begins so
abbrev pub invariant-loop-rule : goal.invariant-loop-rule
invariant-loop-rule l = Begins field.Rule l.read → OneBegins (drop l.rule-index all_rules) l.read
