use Rattle.std.proofs.Common.{◌≡◌, ◌+◌, ◌≤◌, sym, ap, ◌∙◌, subst, arith}
use Rattle.std.proofs.lemmas.Result.{err_from_is_err_and}
use Rattle.ol_term.specs.Trees.{Tree, tree_of, app}
use Rattle.ol_beta.specs.Beta.{substituted}
use Rattle.ol_beta.specs.Measures.{HasRoom, places_of}
use Rattle.ol_beta.proofs.Rooms.{less_room}
use Rattle.ol_beta.proofs.Places.{both_parts}
use Rattle.ol_beta.proofs.contracting.+substitute.Goals as goal

pub returns-in_err-part-in-Var-clause-body : goal.returns-in_err-part-in-Var-clause-body
returns-in_err-part-in-Var-clause-body t c =
    let p = err_from_is_err_and c.from_residual.result c.from_residual.ensures.1 in rw p.1 tt

pub returns-in_err-part-in-Var-clause-places : goal.returns-in_err-part-in-Var-clause-places
returns-in_err-part-in-Var-clause-places t c =
    let p = err_from_is_err_and c.from_residual.result c.from_residual.ensures.1 in rw p.1 tt

pub returns-in_err-part-in-Var-clause-kept : goal.returns-in_err-part-in-Var-clause-kept
returns-in_err-part-in-Var-clause-kept t c =
    let p = err_from_is_err_and c.from_residual.result c.from_residual.ensures.1 in rw p.1 tt

pub returns-in_err-substitute-in-Lam-clause-body : goal.returns-in_err-substitute-in-Lam-clause-body
returns-in_err-substitute-in-Lam-clause-body t c =
    let p = err_from_is_err_and c.from_residual-in_err-substitute-in-Lam.result c.from_residual-in_err-substitute-in-Lam.ensures.1 in rw p.1 tt

pub returns-in_err-substitute-in-Lam-clause-places : goal.returns-in_err-substitute-in-Lam-clause-places
returns-in_err-substitute-in-Lam-clause-places t c =
    let p = err_from_is_err_and c.from_residual-in_err-substitute-in-Lam.result c.from_residual-in_err-substitute-in-Lam.ensures.1 in rw p.1 tt

pub returns-in_err-substitute-in-Lam-clause-kept : goal.returns-in_err-substitute-in-Lam-clause-kept
returns-in_err-substitute-in-Lam-clause-kept t c =
    let p = err_from_is_err_and c.from_residual-in_err-substitute-in-Lam.result c.from_residual-in_err-substitute-in-Lam.ensures.1 in rw p.1 tt

pub returns-in_err-substitute-in-App-clause-body : goal.returns-in_err-substitute-in-App-clause-body
returns-in_err-substitute-in-App-clause-body t c =
    let p = err_from_is_err_and c.from_residual-in_err-substitute-in-App.result c.from_residual-in_err-substitute-in-App.ensures.1 in rw p.1 tt

pub returns-in_err-substitute-in-App-clause-places : goal.returns-in_err-substitute-in-App-clause-places
returns-in_err-substitute-in-App-clause-places t c =
    let p = err_from_is_err_and c.from_residual-in_err-substitute-in-App.result c.from_residual-in_err-substitute-in-App.ensures.1 in rw p.1 tt

pub returns-in_err-substitute-in-App-clause-kept : goal.returns-in_err-substitute-in-App-clause-kept
returns-in_err-substitute-in-App-clause-kept t c =
    let p = err_from_is_err_and c.from_residual-in_err-substitute-in-App.result c.from_residual-in_err-substitute-in-App.ensures.1 in rw p.1 tt

pub returns-in_err-substitute-in-App-2-clause-body : goal.returns-in_err-substitute-in-App-2-clause-body
returns-in_err-substitute-in-App-2-clause-body t c =
    let p = err_from_is_err_and c.from_residual-in_err-substitute-in-App-2.result c.from_residual-in_err-substitute-in-App-2.ensures.1 in rw p.1 tt

pub returns-in_err-substitute-in-App-2-clause-places : goal.returns-in_err-substitute-in-App-2-clause-places
returns-in_err-substitute-in-App-2-clause-places t c =
    let p = err_from_is_err_and c.from_residual-in_err-substitute-in-App-2.result c.from_residual-in_err-substitute-in-App-2.ensures.1 in rw p.1 tt

pub returns-in_err-substitute-in-App-2-clause-kept : goal.returns-in_err-substitute-in-App-2-clause-kept
returns-in_err-substitute-in-App-2-clause-kept t c =
    let p = err_from_is_err_and c.from_residual-in_err-substitute-in-App-2.result c.from_residual-in_err-substitute-in-App-2.ensures.1 in rw p.1 tt

pub shift-requires-clause-room : goal.shift-requires-clause-room
shift-requires-clause-room t c =
    let d : c.args.d ≤ 1000 = omega (arith, c.requires.inside) in
    subst (λ (u : Tree). HasRoom c.args.d u) (sym c.in_ok-part-in-Var.ensures.term)
    (less_room c.args.d 1000 (tree_of c.args.argument.now.term) c.requires.room d)

pub returns-in_ok-substitute-in-App-2-clause-body : goal.returns-in_ok-substitute-in-App-2-clause-body
returns-in_ok-substitute-in-App-2-clause-body t c =
    let f = tree_of c.in-App.left.value in
    let a = tree_of c.in-App.right.value in
    let e : tree_of c.args.body.now ≡ app f a = ap tree_of c.in-App.is in
    let n = c.substitute-in-App.new.argument.places in
    let u : places_of c.args.d (tree_of c.args.body.now) ≡ places_of c.args.d f + places_of c.args.d
    a = ap (places_of c.args.d) e in
    let fs : tree_of c.deref_mut-in-App.result.now ≡ f = ap tree_of c.deref_mut-in-App.ensures.value in
    let at : tree_of c.deref_mut-in-App-2.result.now ≡ a = ap tree_of c.deref_mut-in-App-2.ensures.value in
    let p : n + places_of c.args.d f ≡ c.args.argument.now.places = sym
    (ap (λ (t : Tree). n + places_of c.args.d t) fs) ∙ c.in_ok-substitute-in-App.ensures.places in
    let l : places_of c.args.d a ≤ n = omega (arith, c.requires.places, u, p) in
    let i : tree_of c.substitute-in-App.new.body ≡ substituted
    (tree_of c.args.argument.now.term) c.args.d f = c.in_ok-substitute-in-App.ensures.body
    ∙ ap (substituted (tree_of c.args.argument.now.term) c.args.d) fs in
    let j : tree_of c.substitute-in-App-2.new.body ≡ substituted
    (tree_of c.substitute-in-App.new.argument.term) c.args.d a =
    c.in_ok-substitute-in-App-2.ensures.body
    ∙ ap (substituted (tree_of c.substitute-in-App.new.argument.term) c.args.d) at in
    both_parts (tree_of c.args.argument.now.term)
    (tree_of c.substitute-in-App.new.argument.term) n c.args.d f a
    (tree_of c.substitute-in-App.new.body) (tree_of c.substitute-in-App-2.new.body)
    c.in_ok-substitute-in-App.ensures.kept l i j ∙ sym (ap (substituted (tree_of c.args.argument.now.term) c.args.d) e)
