use Rattle.std.proofs.Common.{◌≡◌, ◌+◌, ◌*◌, ◌++◌, ◌∷◌, Bool, false, true, if◌then◌else◌, length}
use Rattle.std.proofs.Common.{refl, sym, ap, ◌∙◌, arith}
use Rattle.std.proofs.lemmas.Grind.{common_steps}
use Rattle.ol_term.specs.Trees.{tree_of, lam, app, term_size}
use Rattle.ol_term.specs.BinderNames.{binder_name}
use Rattle.ol_term.specs.Texts.{before_binder, before_body, is_abstraction, is_variable, in_brackets, term_text_under}
use Rattle.ol_term.specs.Printing.{bracketed}
use Rattle.ol_term.specs.declared.printing.Todo.TheVariants as todo
use Rattle.ol_term.proofs.Items.{body_printable, function_printable, argument_printable, one_step, app_step}
use Rattle.ol_term.proofs.printing.print_part.Goals as goal

pub returns-in_ok-add-in-Lam-clause-step : goal.returns-in_ok-add-in-Lam-clause-step
returns-in_ok-add-in-Lam-clause-step c =
    let names = c.args.names.now in
    let t = tree_of c.args.term.now in
    let n = c.args.round in
    let u = tree_of c.deref.result.now in
    let e : t ≡ lam u = grind (arith, common_steps) in
    let z : term_size t ≡ 1 + term_size u = ap term_size e in
    let q = c.in_ok-put-in-Lam.ensures.text
    ∙ ap (λ ns. c.put_before_binder.new.text.items ++ binder_name ns n) c.requires.binders in
    one_step names c.args.text.now.items c.put_before_binder.new.text.items
    c.put-in-Lam.new.text.items (before_binder c.args.body) (binder_name names n)
    (term_text_under names c.args.body n t)
    (term_text_under names true (n + 1) u) c.args.todo.now.items c.add.new.todo.items
    (todo.Term c.deref.result (n + 1) true)
    (4 * term_size t) c.in_ok-put_before_binder-in-Lam.ensures q c.in_ok-add-in-Lam.ensures refl
    (ap (term_text_under names c.args.body n) e)
    (body_printable (length names) n t u e c.requires.printable) (omega (arith, z)) c.requires.items

pub returns-in_ok-add-in-App-2-clause-step : goal.returns-in_ok-add-in-App-2-clause-step
returns-in_ok-add-in-App-2-clause-step c =
    let names = c.args.names.now in
    let t = tree_of c.args.term.now in
    let n = c.args.round in
    let f = tree_of c.deref-in-App-3.result.now in
    let a = tree_of c.deref-in-App.result.now in
    let e : t ≡ app f a = grind (arith, common_steps) in
    let b : c.is_abstraction.result ≡ is_abstraction f = grind (arith, common_steps) in
    let z : term_size t ≡ 1 + term_size f + term_size a = ap term_size e in
    let F = term_text_under names false n f in
    let A = 32 ∷ bracketed (is_variable a) (term_text_under names false n a) in
    app_step names c.args.text.now.items c.put_before_body-in-App.new.text.items
    c.open.new.text.items (before_body c.args.body) F A
    (term_text_under names c.args.body n t) c.args.todo.now.items c.add-in-App.new.todo.items
    c.open.new.todo.items c.add-in-App-2.new.todo.items
    c.is_abstraction.result (todo.Argument c.deref-in-App.result n)
    (todo.Term c.deref-in-App-3.result n false)
    (4 * term_size t) c.in_ok-put_before_body-in-App.ensures c.in_ok-add-in-App.ensures
    c.in_ok-open-in-App.ensures.text c.in_ok-open-in-App.ensures.todo c.in_ok-add-in-App-2.ensures refl refl
    (ap (term_text_under names c.args.body n) e
    ∙ ap (λ (b : Bool). before_body c.args.body ++ ((if b then in_brackets F else F) ++ A))
    (sym b)) (argument_printable (length names) n t f a e c.requires.printable)
    (function_printable (length names) n t f a e c.requires.printable) (omega (arith, z)) c.requires.items
