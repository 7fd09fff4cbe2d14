-- How often each rule stands in a journal.
use Rattle.std.specs.Prelude.{ℕ, Bool, true, false, List, count_by}
use Rattle.ol_net.specs.declared.parts.Rule.{Rule}
use Rattle.ol_net.specs.declared.parts.Rule.TheVariants as rule
use Rattle.ol_rules.specs.declared.journal.Entry.{Entry}
use Rattle.ol_rules.specs.declared.journal.Counts.{Counts}

abbrev pub is_rule : Rule → Rule → Bool
is_rule rule.Beta rule.Beta = true
is_rule rule.Fan rule.Fan = true
is_rule rule.Croissant rule.Croissant = true
is_rule rule.Bracket rule.Bracket = true
is_rule rule.CrossFan rule.CrossFan = true
is_rule rule.CrossCroissant rule.CrossCroissant = true
is_rule rule.CrossBracket rule.CrossBracket = true
is_rule rule.Erase rule.Erase = true
is_rule _ _ = false

-- the number of entries with this rule
abbrev pub times_applied : Rule → List Entry → ℕ
times_applied r es = count_by (λ (e : Entry). is_rule e.rule r) es

abbrev pub counts_of : List Entry → Counts
counts_of es = record {
  beta = times_applied rule.Beta es;
  fan = times_applied rule.Fan es;
  croissant = times_applied rule.Croissant es;
  bracket = times_applied rule.Bracket es;
  cross_fan = times_applied rule.CrossFan es;
  cross_croissant = times_applied rule.CrossCroissant es;
  cross_bracket = times_applied rule.CrossBracket es;
  erase = times_applied rule.Erase es;
}
