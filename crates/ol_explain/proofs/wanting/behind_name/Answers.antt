use Rattle.std.proofs.Common.{◌++◌, ℕ, List, drop, ap, ◌∙◌}
use Rattle.std.specs.Prelude.{option_map}
use Rattle.ol_rules.specs.declared.journal.NodeName.{NodeName}
use Rattle.ol_view.specs.TraceTexts.{name_text}
use Rattle.ol_view.proofs.AtPlaces.{name_is_read, no_name_is_read, no_byte_is_read}
use Rattle.ol_explain.specs.declared.wanting.Field.TheVariants as field
use Rattle.ol_explain.proofs.Breaks.{none_first, none_second}
use Rattle.ol_explain.proofs.wanting.behind_name.Goals as goal

pub returns-in_default-clause-none : goal.returns-in_default-clause-none
returns-in_default-clause-none c = none_first field.Name (drop c.args.at c.args.text.now) c.args.end
    (ap (λ o. option_map (λ (r : NodeName × List ℕ). r.1) o)
    (no_name_is_read (drop c.args.at c.args.text.now) c.in_default.ensures.none)) c.requires.end

pub returns-in_default-behind-clause-none : goal.returns-in_default-behind-clause-none
returns-in_default-behind-clause-none c = none_second field.Name (drop c.args.at c.args.text.now) c.args.end
    (drop c.in-Some.space c.args.text.now)
    (ap (λ o. option_map (λ (r : NodeName × List ℕ). r.1) o) (name_is_read (drop c.args.at c.args.text.now)
    c.in-Some.name (drop c.in-Some.space c.args.text.now) c.in-Some.ensures.found))
    (no_byte_is_read c.args.end (drop c.in-Some.space c.args.text.now) c.in_default-behind.ensures.none) c.requires.end

pub returns-clause-some : goal.returns-clause-some
returns-clause-some c = (
  c.in-Some.ensures.found.may,
  c.in-Some.ensures.found.begins ∙ ap (λ (r : List ℕ). name_text c.in-Some.name ++ r) c.in-Some-behind.ensures.found,
)
