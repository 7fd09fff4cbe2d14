use Rattle.std.proofs.Common.{◌++◌, ℕ, List, drop, inr, refl, ap, ◌∙◌}
use Rattle.std.specs.Prelude.{option_map}
use Rattle.std.specs.Fmt.{decimal}
use Rattle.ol_view.proofs.AtPlaces.{number_is_read, no_number_is_read, no_byte_is_read}
use Rattle.ol_explain.specs.declared.wanting.Field.TheVariants as field
use Rattle.ol_explain.proofs.Breaks.{none_first, none_second}
use Rattle.ol_explain.proofs.wanting.behind_number.Goals as goal

pub returns-in_default-clause-none : goal.returns-in_default-clause-none
returns-in_default-clause-none c = none_first field.Number (drop c.args.at c.args.text.now) 32
    (ap (λ o. option_map (λ (r : ℕ × List ℕ). r.1) o)
    (no_number_is_read (drop c.args.at c.args.text.now) c.in_default.ensures.none)) (inr refl)

pub returns-in_default-behind-clause-none : goal.returns-in_default-behind-clause-none
returns-in_default-behind-clause-none c = none_second field.Number (drop c.args.at c.args.text.now) 32
    (drop c.in-Some.space c.args.text.now)
    (ap (λ o. option_map (λ (r : ℕ × List ℕ). r.1) o) (number_is_read (drop c.args.at c.args.text.now)
    c.in-Some.number (drop c.in-Some.space c.args.text.now) c.in-Some.ensures.found))
    (no_byte_is_read 32 (drop c.in-Some.space c.args.text.now) c.in_default-behind.ensures.none) (inr refl)

pub returns-clause-some : goal.returns-clause-some
returns-clause-some c = (
  c.in-Some.ensures.found.may,
  c.in-Some.ensures.found.begins ∙ ap (λ (r : List ℕ). decimal c.in-Some.number ++ r) c.in-Some-behind.ensures.found,
)
