use Rattle.std.proofs.Common.{ap, sym, ◌∙◌, reverse, subst}
use Rattle.std.proofs.lemmas.Result.{err_from_is_err_and}
use Rattle.ol_term.specs.Trees as tree
use Rattle.ol_term.specs.Trees.{tree_of}
use Rattle.ol_parse.specs.Steps.{term_at, shown}
use Rattle.ol_term.specs.NameLists.{position_of}
use Rattle.ol_parse.specs.Resolving.{texts, names_from, IsNumbered}
use Rattle.ol_parse.proofs.Places.{free_named, free_numbered, both_numbered}
use Rattle.ol_parse.proofs.numbers.+resolve.Goals as goal

pub returns-in_err-add-in-None-clause-kept : goal.returns-in_err-add-in-None-clause-kept
returns-in_err-add-in-None-clause-kept t c =
    let p = err_from_is_err_and c.from_residual.result c.from_residual.ensures.1 in rw p.1 tt

pub returns-in_err-add-in-None-clause-few : goal.returns-in_err-add-in-None-clause-few
returns-in_err-add-in-None-clause-few t c =
    let p = err_from_is_err_and c.from_residual.result c.from_residual.ensures.1 in rw p.1 tt

pub returns-in_err-add-in-None-clause-names : goal.returns-in_err-add-in-None-clause-names
returns-in_err-add-in-None-clause-names t c =
    let p = err_from_is_err_and c.from_residual.result c.from_residual.ensures.1 in rw p.1 tt

pub returns-in_err-add-in-None-clause-numbered : goal.returns-in_err-add-in-None-clause-numbered
returns-in_err-add-in-None-clause-numbered t c =
    let p = err_from_is_err_and c.from_residual.result c.from_residual.ensures.1 in rw p.1 tt

pub returns-in_err-map_err-in-Abstraction-clause-kept : goal.returns-in_err-map_err-in-Abstraction-clause-kept
returns-in_err-map_err-in-Abstraction-clause-kept t c =
    let p = err_from_is_err_and c.from_residual-in_err-map_err-in-Abstraction.result c.from_residual-in_err-map_err-in-Abstraction.ensures.1 in rw p.1 tt

pub returns-in_err-map_err-in-Abstraction-clause-few : goal.returns-in_err-map_err-in-Abstraction-clause-few
returns-in_err-map_err-in-Abstraction-clause-few t c =
    let p = err_from_is_err_and c.from_residual-in_err-map_err-in-Abstraction.result c.from_residual-in_err-map_err-in-Abstraction.ensures.1 in rw p.1 tt

pub returns-in_err-map_err-in-Abstraction-clause-names : goal.returns-in_err-map_err-in-Abstraction-clause-names
returns-in_err-map_err-in-Abstraction-clause-names t c =
    let p = err_from_is_err_and c.from_residual-in_err-map_err-in-Abstraction.result c.from_residual-in_err-map_err-in-Abstraction.ensures.1 in rw p.1 tt

pub returns-in_err-map_err-in-Abstraction-clause-numbered : goal.returns-in_err-map_err-in-Abstraction-clause-numbered
returns-in_err-map_err-in-Abstraction-clause-numbered t c =
    let p = err_from_is_err_and c.from_residual-in_err-map_err-in-Abstraction.result c.from_residual-in_err-map_err-in-Abstraction.ensures.1 in rw p.1 tt

pub returns-in_err-inside-in-Abstraction-clause-kept : goal.returns-in_err-inside-in-Abstraction-clause-kept
returns-in_err-inside-in-Abstraction-clause-kept t c =
    let p = err_from_is_err_and c.from_residual-in_err-inside-in-Abstraction.result c.from_residual-in_err-inside-in-Abstraction.ensures.1 in rw p.1 tt

pub returns-in_err-inside-in-Abstraction-clause-few : goal.returns-in_err-inside-in-Abstraction-clause-few
returns-in_err-inside-in-Abstraction-clause-few t c =
    let p = err_from_is_err_and c.from_residual-in_err-inside-in-Abstraction.result c.from_residual-in_err-inside-in-Abstraction.ensures.1 in rw p.1 tt

pub returns-in_err-inside-in-Abstraction-clause-names : goal.returns-in_err-inside-in-Abstraction-clause-names
returns-in_err-inside-in-Abstraction-clause-names t c =
    let p = err_from_is_err_and c.from_residual-in_err-inside-in-Abstraction.result c.from_residual-in_err-inside-in-Abstraction.ensures.1 in rw p.1 tt

pub returns-in_err-inside-in-Abstraction-clause-numbered : goal.returns-in_err-inside-in-Abstraction-clause-numbered
returns-in_err-inside-in-Abstraction-clause-numbered t c =
    let p = err_from_is_err_and c.from_residual-in_err-inside-in-Abstraction.result c.from_residual-in_err-inside-in-Abstraction.ensures.1 in rw p.1 tt

pub returns-in_err-boxed-in-Abstraction-clause-kept : goal.returns-in_err-boxed-in-Abstraction-clause-kept
returns-in_err-boxed-in-Abstraction-clause-kept t c =
    let p = err_from_is_err_and c.from_residual-in_err-boxed-in-Abstraction.result c.from_residual-in_err-boxed-in-Abstraction.ensures.1 in rw p.1 tt

pub returns-in_err-boxed-in-Abstraction-clause-few : goal.returns-in_err-boxed-in-Abstraction-clause-few
returns-in_err-boxed-in-Abstraction-clause-few t c =
    let p = err_from_is_err_and c.from_residual-in_err-boxed-in-Abstraction.result c.from_residual-in_err-boxed-in-Abstraction.ensures.1 in rw p.1 tt

pub returns-in_err-boxed-in-Abstraction-clause-names : goal.returns-in_err-boxed-in-Abstraction-clause-names
returns-in_err-boxed-in-Abstraction-clause-names t c =
    let p = err_from_is_err_and c.from_residual-in_err-boxed-in-Abstraction.result c.from_residual-in_err-boxed-in-Abstraction.ensures.1 in rw p.1 tt

pub returns-in_err-boxed-in-Abstraction-clause-numbered : goal.returns-in_err-boxed-in-Abstraction-clause-numbered
returns-in_err-boxed-in-Abstraction-clause-numbered t c =
    let p = err_from_is_err_and c.from_residual-in_err-boxed-in-Abstraction.result c.from_residual-in_err-boxed-in-Abstraction.ensures.1 in rw p.1 tt

pub returns-in_err-function-in-Application-clause-kept : goal.returns-in_err-function-in-Application-clause-kept
returns-in_err-function-in-Application-clause-kept t c =
    let p = err_from_is_err_and c.from_residual-in_err-function-in-Application.result c.from_residual-in_err-function-in-Application.ensures.1 in rw p.1 tt

pub returns-in_err-function-in-Application-clause-few : goal.returns-in_err-function-in-Application-clause-few
returns-in_err-function-in-Application-clause-few t c =
    let p = err_from_is_err_and c.from_residual-in_err-function-in-Application.result c.from_residual-in_err-function-in-Application.ensures.1 in rw p.1 tt

pub returns-in_err-function-in-Application-clause-names : goal.returns-in_err-function-in-Application-clause-names
returns-in_err-function-in-Application-clause-names t c =
    let p = err_from_is_err_and c.from_residual-in_err-function-in-Application.result c.from_residual-in_err-function-in-Application.ensures.1 in rw p.1 tt

pub returns-in_err-function-in-Application-clause-numbered : goal.returns-in_err-function-in-Application-clause-numbered
returns-in_err-function-in-Application-clause-numbered t c =
    let p = err_from_is_err_and c.from_residual-in_err-function-in-Application.result c.from_residual-in_err-function-in-Application.ensures.1 in rw p.1 tt

pub returns-in_err-argument-in-Application-clause-kept : goal.returns-in_err-argument-in-Application-clause-kept
returns-in_err-argument-in-Application-clause-kept t c =
    let p = err_from_is_err_and c.from_residual-in_err-argument-in-Application.result c.from_residual-in_err-argument-in-Application.ensures.1 in rw p.1 tt

pub returns-in_err-argument-in-Application-clause-few : goal.returns-in_err-argument-in-Application-clause-few
returns-in_err-argument-in-Application-clause-few t c =
    let p = err_from_is_err_and c.from_residual-in_err-argument-in-Application.result c.from_residual-in_err-argument-in-Application.ensures.1 in rw p.1 tt

pub returns-in_err-argument-in-Application-clause-names : goal.returns-in_err-argument-in-Application-clause-names
returns-in_err-argument-in-Application-clause-names t c =
    let p = err_from_is_err_and c.from_residual-in_err-argument-in-Application.result c.from_residual-in_err-argument-in-Application.ensures.1 in rw p.1 tt

pub returns-in_err-argument-in-Application-clause-numbered : goal.returns-in_err-argument-in-Application-clause-numbered
returns-in_err-argument-in-Application-clause-numbered t c =
    let p = err_from_is_err_and c.from_residual-in_err-argument-in-Application.result c.from_residual-in_err-argument-in-Application.ensures.1 in rw p.1 tt

pub returns-in_err-boxed-in-Application-clause-kept : goal.returns-in_err-boxed-in-Application-clause-kept
returns-in_err-boxed-in-Application-clause-kept t c =
    let p = err_from_is_err_and c.from_residual-in_err-boxed-in-Application.result c.from_residual-in_err-boxed-in-Application.ensures.1 in rw p.1 tt

pub returns-in_err-boxed-in-Application-clause-few : goal.returns-in_err-boxed-in-Application-clause-few
returns-in_err-boxed-in-Application-clause-few t c =
    let p = err_from_is_err_and c.from_residual-in_err-boxed-in-Application.result c.from_residual-in_err-boxed-in-Application.ensures.1 in rw p.1 tt

pub returns-in_err-boxed-in-Application-clause-names : goal.returns-in_err-boxed-in-Application-clause-names
returns-in_err-boxed-in-Application-clause-names t c =
    let p = err_from_is_err_and c.from_residual-in_err-boxed-in-Application.result c.from_residual-in_err-boxed-in-Application.ensures.1 in rw p.1 tt

pub returns-in_err-boxed-in-Application-clause-numbered : goal.returns-in_err-boxed-in-Application-clause-numbered
returns-in_err-boxed-in-Application-clause-numbered t c =
    let p = err_from_is_err_and c.from_residual-in_err-boxed-in-Application.result c.from_residual-in_err-boxed-in-Application.ensures.1 in rw p.1 tt

pub returns-in_err-boxed-in-Application-2-clause-kept : goal.returns-in_err-boxed-in-Application-2-clause-kept
returns-in_err-boxed-in-Application-2-clause-kept t c =
    let p = err_from_is_err_and c.from_residual-in_err-boxed-in-Application-2.result c.from_residual-in_err-boxed-in-Application-2.ensures.1 in rw p.1 tt

pub returns-in_err-boxed-in-Application-2-clause-few : goal.returns-in_err-boxed-in-Application-2-clause-few
returns-in_err-boxed-in-Application-2-clause-few t c =
    let p = err_from_is_err_and c.from_residual-in_err-boxed-in-Application-2.result c.from_residual-in_err-boxed-in-Application-2.ensures.1 in rw p.1 tt

pub returns-in_err-boxed-in-Application-2-clause-names : goal.returns-in_err-boxed-in-Application-2-clause-names
returns-in_err-boxed-in-Application-2-clause-names t c =
    let p = err_from_is_err_and c.from_residual-in_err-boxed-in-Application-2.result c.from_residual-in_err-boxed-in-Application-2.ensures.1 in rw p.1 tt

pub returns-in_err-boxed-in-Application-2-clause-numbered : goal.returns-in_err-boxed-in-Application-2-clause-numbered
returns-in_err-boxed-in-Application-2-clause-numbered t c =
    let p = err_from_is_err_and c.from_residual-in_err-boxed-in-Application-2.result c.from_residual-in_err-boxed-in-Application-2.ensures.1 in rw p.1 tt

pub returns-in_ok-add-in-None-clause-names : goal.returns-in_ok-add-in-None-clause-names
returns-in_ok-add-in-None-clause-names t c =
    free_named (term_at c.args.steps.now c.args.at) c.in-Occurrence.x.now
    (texts (reverse c.args.binders.now.items)) c.args.names.now c.add.new.self
    c.in_ok-add-in-None.field-0 (c.part_at.ensures.shown ∙ ap (shown c.args.steps.now) c.in-Occurrence.is)
    (ap (λ l. position_of c.in-Occurrence.x.now (texts (reverse l))) (sym c.deref.ensures.value)
    ∙ sym c.binder.ensures ∙ c.in-None.is)
    c.in_ok-add-in-None.ensures.number c.in_ok-add-in-None.ensures.known c.in_ok-add-in-None.ensures.last

pub returns-in_ok-add-in-None-clause-numbered : goal.returns-in_ok-add-in-None-clause-numbered
returns-in_ok-add-in-None-clause-numbered t c =
    free_numbered (term_at c.args.steps.now c.args.at) c.in-Occurrence.x.now
    (texts (reverse c.args.binders.now.items)) c.add.new.self c.in_ok-add-in-None.field-0 (c.part_at.ensures.shown ∙ ap (shown c.args.steps.now) c.in-Occurrence.is)
    (ap (λ l. position_of c.in-Occurrence.x.now (texts (reverse l))) (sym c.deref.ensures.value)
    ∙ sym c.binder.ensures ∙ c.in-None.is)
    c.in_ok-add-in-None.ensures.number

pub returns-in_ok-boxed-in-Application-2-clause-numbered : goal.returns-in_ok-boxed-in-Application-2-clause-numbered
returns-in_ok-boxed-in-Application-2-clause-numbered t c =
    let kept = c.in_ok-function-in-Application.ensures.kept in
    let f = term_at c.args.steps.now c.in-Application.f in
    let a = term_at c.args.steps.now c.in-Application.a in
    λ more.
    let e = both_numbered (term_at c.args.steps.now c.args.at) f a
    (texts (reverse c.args.binders.now.items)) c.args.names.now c.resolve-in-Application.new.names
    c.resolve-in-Application-2.new.names (tree_of c.in_ok-function-in-Application.function)
    (tree_of c.in_ok-argument-in-Application.argument)
    (c.part_at.ensures.shown ∙ ap (shown c.args.steps.now) c.in-Application.is)
    c.in_ok-function-in-Application.ensures.names
    (c.in_ok-argument-in-Application.ensures.names
    ∙ ap (λ l. names_from (texts (reverse l)) c.resolve-in-Application.new.names a) kept)
    c.in_ok-function-in-Application.ensures.numbered
    (subst (λ l. IsNumbered c.resolve-in-Application-2.new.names (texts (reverse l)) a
    (tree_of c.in_ok-argument-in-Application.argument)) kept c.in_ok-argument-in-Application.ensures.numbered)
    more in
    e ∙ ap (λ x. tree.app (tree_of x) (tree_of c.in_ok-argument-in-Application.argument))
    (sym c.in_ok-boxed-in-Application.ensures) ∙ ap
    (λ x. tree.app (tree_of c.in_ok-boxed-in-Application.field-0.value) (tree_of x))
    (sym c.in_ok-boxed-in-Application-2.ensures)
