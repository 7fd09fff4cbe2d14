use Rattle.std.proofs.Common.{◌≡◌, ◌+◌, ◌<◌, refl, ap, arith}
use Rattle.ol_term.specs.Trees.{tree_of, term_size}
use Rattle.ol_beta.proofs.Searching.{size_positive}
use Rattle.ol_strategies.proofs.Remaining.{sizes, size_in, one_sizes, two_sizes, search_into_body, search_into_function}
use Rattle.ol_strategies.specs.declared.strict.Todo.TheVariants as todo
use Rattle.ol_strategies.proofs.strict.strict_redex.Goals as goal

pub parts-smaller-in-Application : goal.parts-smaller-in-Application
parts-smaller-in-Application c =
    let s : sizes c.add_todo.new.todo.items ≡ sizes c.parts.todo.items
    + term_size (tree_of c.in-Application.argument.now) =
    two_sizes c.parts.todo.items c.add_redex_if.new.todo.items c.add_todo.new.todo.items c.is_ready.result
    c.len-at.result (todo.Argument c.in-Application.argument c.len-at.result)
    c.in_ok-add_redex_if-in-Application.ensures c.in_ok-add_todo-in-Application.ensures in
    let e = ap term_size c.in-Application.ensures in
    let h : term_size (tree_of c.in-Application.function.now) + sizes c.add_todo.new.todo.items
    < term_size (tree_of c.parts.part.now) + sizes c.parts.todo.items = omega (arith, s, e) in
    h

pub parts-preserved-in-Application : goal.parts-preserved-in-Application
parts-preserved-in-Application c =
    search_into_function c.args.below (tree_of c.args.t.now) (tree_of c.parts.part.now)
    (tree_of c.in-Application.function.now) (tree_of c.in-Application.argument.now) c.parts.moves.items
    c.add_move.new.moves.items c.parts.todo.items c.add_redex_if.new.todo.items c.add_todo.new.todo.items
    c.is_ready.result c.len-at.result (todo.Argument c.in-Application.argument c.len-at.result)
    c.in-Application.ensures c.is_ready.ensures c.in_ok-add_move-in-Application.ensures
    c.in_ok-add_redex_if-in-Application.ensures c.in_ok-add_todo-in-Application.ensures (omega arith)
    (λ p ts. refl) (λ d k ts l m h. (l, (m, h))) c.parts.invariant

pub parts-preserved-in-Body : goal.parts-preserved-in-Body
parts-preserved-in-Body c =
    search_into_body c.args.below (tree_of c.args.t.now) (tree_of c.parts.part.now) (tree_of c.in-Body.body.now)
    c.parts.moves.items c.add_move-in-Body.new.moves.items c.parts.todo.items c.in-Body.ensures.0
    c.in-Body.ensures.1 c.in_ok-add_move-in-Body.ensures c.parts.invariant

pub parts-smaller : goal.parts-smaller
parts-smaller c =
    let s = one_sizes c.parts.todo.items c.pop.new.self.items c.in-Some-Argument.field-0
    c.in-Some-Argument.ensures.items in
    let z : size_in c.in-Some-Argument.field-0 ≡ term_size (tree_of c.in-Some-Argument.argument.now) =
    ap size_in c.in-Some-Argument.field-0-is in
    let e = size_positive (tree_of c.parts.part.now) in
    let h : term_size (tree_of c.in-Some-Argument.argument.now) + sizes c.pop.new.self.items
    < term_size (tree_of c.parts.part.now) + sizes c.parts.todo.items = omega (arith, s, z, e) in
    h
