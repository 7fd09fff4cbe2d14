use Rattle.std.proofs.Common.{◌++◌, ℕ, List, drop, inr, refl, ap, ◌∙◌}
use Rattle.std.specs.Prelude.{option_map}
use Rattle.ol_net.specs.declared.parts.Rule.{Rule}
use Rattle.ol_view.specs.RuleNames.{rule_text}
use Rattle.ol_view.proofs.AtPlaces.{rule_is_read, no_rule_is_read, no_byte_is_read}
use Rattle.ol_explain.specs.declared.wanting.Field.TheVariants as field
use Rattle.ol_explain.proofs.Breaks.{none_first, none_second}
use Rattle.ol_explain.proofs.wanting.behind_rule.Goals as goal

pub returns-in_default-clause-none : goal.returns-in_default-clause-none
returns-in_default-clause-none c = none_first field.Rule (drop c.args.at c.args.text.now) 32
    (ap (λ o. option_map (λ (r : Rule × List ℕ). r.1) o)
    (no_rule_is_read (drop c.args.at c.args.text.now) c.in_default.ensures.none)) (inr refl)

pub returns-in_default-behind-clause-none : goal.returns-in_default-behind-clause-none
returns-in_default-behind-clause-none c = none_second field.Rule (drop c.args.at c.args.text.now) 32
    (drop c.in-Some.space c.args.text.now)
    (ap (λ o. option_map (λ (r : Rule × List ℕ). r.1) o) (rule_is_read (drop c.args.at c.args.text.now)
    c.in-Some.rule (drop c.in-Some.space c.args.text.now) c.in-Some.ensures.found))
    (no_byte_is_read 32 (drop c.in-Some.space c.args.text.now) c.in_default-behind.ensures.none) (inr refl)

pub returns-clause-some : goal.returns-clause-some
returns-clause-some c = c.in-Some.ensures.found
    ∙ ap (λ (r : List ℕ). rule_text c.in-Some.rule ++ r) c.in-Some-behind.ensures.found
