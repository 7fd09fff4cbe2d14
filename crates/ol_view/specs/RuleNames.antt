-- The names of rules.
use Rattle.std.specs.Prelude.{ℕ, List, codes}
use Rattle.ol_net.specs.declared.parts.Rule.{Rule}
use Rattle.ol_net.specs.declared.parts.Rule.TheVariants as rule

-- the name of a rule, as in the lines of counts
abbrev pub rule_text : Rule → List ℕ
rule_text rule.Beta = codes "beta"
rule_text rule.Fan = codes "fan"
rule_text rule.Croissant = codes "croissant"
rule_text rule.Bracket = codes "bracket"
rule_text rule.CrossFan = codes "cross-fan"
rule_text rule.CrossCroissant = codes "cross-croissant"
rule_text rule.CrossBracket = codes "cross-bracket"
rule_text rule.Erase = codes "erase"
