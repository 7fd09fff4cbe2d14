use Rattle.std.proofs.Common.{◌≡◌, [], ◌∷◌, Bool, false, length, refl, sym, ap, ◌∙◌, subst, arith}
use Rattle.std.specs.Prelude.{not}
use Rattle.ol_term.specs.Trees.{tree_of}
use Rattle.ol_term.specs.Texts.{term_text_under}
use Rattle.ol_term.specs.Printing.{bracketed, item_text, IsItem, weight}
use Rattle.ol_term.specs.declared.printing.Todo.TheVariants as todo
use Rattle.ol_term.proofs.Items.{flipped, open_step}
use Rattle.ol_term.proofs.printing.print_next.Goals as goal

pub returns-in_ok-add-in-Argument-clause-step : goal.returns-in_ok-add-in-Argument-clause-step
returns-in_ok-add-in-Argument-clause-step c =
    let names = c.args.names.now in
    let t = tree_of c.in-Argument.term.now in
    let n = c.in-Argument.round in
    let inner = term_text_under names false n t in
    let b = not c.is_variable.result in
    let z : weight c.args.next ≡ weight (todo.Argument c.in-Argument.term n) = ap weight c.in-Argument.is in
    let e = ap (item_text names) c.in-Argument.is
    ∙ ap (λ (v : Bool). 32 ∷ bracketed v inner) (sym c.is_variable.ensures)
    ∙ ap (λ z. 32 ∷ z) (flipped c.is_variable.result inner) in
    open_step names c.args.text.now.items c.put.new.text.items c.open.new.text.items (32 ∷ [])
    (item_text names c.args.next) inner c.args.todo.now.items c.open.new.todo.items
    c.add.new.todo.items b (todo.Term c.in-Argument.term n false) (weight c.args.next)
    c.in_ok-put-in-Argument.ensures c.in_ok-open-in-Argument.ensures.text
    c.in_ok-open-in-Argument.ensures.todo c.in_ok-add-in-Argument.ensures refl e
    (subst (IsItem (length names)) c.in-Argument.is c.requires.item) (omega (arith, z)) c.requires.items
