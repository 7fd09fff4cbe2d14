use Rattle.std.proofs.Common.{Bool, ◌++◌, sym, ap, ◌∙◌}
use Rattle.ol_term.specs.Trees.{tree_of}
use Rattle.ol_steps.specs.Trees.{binders_in}
use Rattle.ol_steps.specs.Lets.{row_if, names_of_lets}
use Rattle.ol_steps.specs.ValueTrees.{rows_of}
use Rattle.ol_steps.proofs.Rows.{added, append_none, no_rows}
use Rattle.ol_steps.proofs.lets.add_if.Goals as goal

pub returns-then-not-kept : goal.returns-then-not-kept
returns-then-not-kept c =
    let old = c.args.names.now in
    let rows = rows_of c.args.rows.now.items in
    let x = c.args.name.now in
    let v = tree_of c.args.value.now in
    let s = binders_in c.args.binders.now in record {
      names = append_none old ∙ ap (λ (b : Bool). old ++ names_of_lets (row_if b x v s)) (sym c.if-not-kept.true);
      rows = no_rows rows ∙ ap (λ (b : Bool). rows ++ row_if b x v s) (sym c.if-not-kept.true);
    }

pub returns-clause-names : goal.returns-clause-names
returns-clause-names c =
    let old = c.args.names.now in
    let x = c.args.name.now in
    let v = tree_of c.args.value.now in
    let s = binders_in c.args.binders.now in
    added old c.add.new.self x c.in_ok-add.field-0 (c.requires.new c.if-not-kept.false)
    c.in_ok-add.ensures.number c.in_ok-add.ensures.known c.in_ok-add.ensures.last
    ∙ ap (λ (b : Bool). old ++ names_of_lets (row_if b x v s)) (sym c.if-not-kept.false)
