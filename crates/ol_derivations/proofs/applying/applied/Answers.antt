use Rattle.std.proofs.Common.{◌<◌, inl, inr, ℕ, Option, sym, ◌∙◌, subst}
use Rattle.std.proofs.lemmas.Bool.{cases_lt}
use Rattle.ol_limits.specs.Limits.{most_depth}
use Rattle.ol_term.specs.Trees.{tree_of, depth}
use Rattle.ol_derivations.specs.Applications.{IsFurther}
use Rattle.ol_derivations.proofs.Joined.{no_room, with_room, each_occurs}
use Rattle.ol_derivations.proofs.Spelled.{clash}
use Rattle.ol_derivations.proofs.applying.applied.Goals as goal

pub returns-in_default : goal.returns-in_default
returns-in_default c =
    let i = c.args.input.now in
    no_room c.args.function.now i c.requires.function
    (subst (λ (o : Option ℕ). IsFurther i.text.now o) c.in_default.is c.requires.input.arguments)

pub returns-then-is_within : goal.returns-then-is_within
returns-then-is_within c =
    let i = c.args.input.now in
    let few = subst (λ (o : Option ℕ). IsFurther i.text.now o) c.in-Some.is c.requires.input.arguments in
    let j = with_room c.args.function.now i c.in-Some.further c.in_ok-file.file c.requires.function c.requires.input few
    c.in_ok-file.ensures.tree c.in_ok-file.ensures.names in
    (j, c.is_within.ensures.0 c.if-is_within.true, each_occurs j)

pub returns-else-is_within : goal.returns-else-is_within
returns-else-is_within c =
    let i = c.args.input.now in
    let few = subst (λ (o : Option ℕ). IsFurther i.text.now o) c.in-Some.is c.requires.input.arguments in
    let t = tree_of c.in_ok-file.file.term in
    let j = with_room c.args.function.now i c.in-Some.further c.in_ok-file.file c.requires.function c.requires.input few
    c.in_ok-file.ensures.tree c.in_ok-file.ensures.names in
    let deep : most_depth < depth t = elim (cases_lt most_depth (depth t)) [
      | inl past ↦ past
      | inr low ↦ clash (sym c.if-is_within.false ∙ c.is_within.ensures.1 low)
    ] in
    (t, c.in_ok-file.file.names, j, deep)
