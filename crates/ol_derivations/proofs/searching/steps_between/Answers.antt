use Rattle.std.proofs.Common.{◌≡◌, suc, ◌+◌, subst, arith}
use Rattle.ol_term.specs.Trees.{tree_of}
use Rattle.ol_derivations.specs.Searches.{IsSearched}
use Rattle.ol_derivations.proofs.Seeking.{NoneUpTo, none_of_one, none_on, none_in_all, steps_found, steps_cut}
use Rattle.ol_derivations.proofs.searching.steps_between.Goals as goal

pub loop-n-init : goal.loop-n-init
loop-n-init c =
    none_of_one (tree_of c.args.t.now) (tree_of c.args.u.now) c.requires.no_step c.requires.different

pub loop-n-preserved : goal.loop-n-preserved
loop-n-preserved c =
    let t = tree_of c.args.t.now in
    let u = tree_of c.args.u.now in
    let n = c.loop-n.n in
    let h = subst (IsSearched t u n 1000 c.seek.new.left) c.in-Missed.is c.in_ok-seek.ensures in
    let e : suc n ≡ n + 1 = omega arith in
    subst (λ n. NoneUpTo n t u) e (none_on t u n c.loop-n.invariant h.0)

pub returns-in-Found : goal.returns-in-Found
returns-in-Found c =
    let t = tree_of c.args.t.now in
    let u = tree_of c.args.u.now in
    let n = c.loop-n.n in
    let h = subst (IsSearched t u n 1000 c.seek.new.left) c.in-Found.is c.in_ok-seek.ensures in
    steps_found t u n (n + 1) c.seek.new.left (omega arith) (omega arith) (omega (arith, c.loop-n-test.true))
    c.loop-n.invariant h

pub returns-in-Cut : goal.returns-in-Cut
returns-in-Cut c =
    let t = tree_of c.args.t.now in
    let u = tree_of c.args.u.now in
    let n = c.loop-n.n in
    steps_cut t u n c.seek.new.left c.loop-n.invariant
    (subst (IsSearched t u n 1000 c.seek.new.left) c.in-Cut.is c.in_ok-seek.ensures)

pub returns : goal.returns
returns c = none_in_all (tree_of c.args.t.now) (tree_of c.args.u.now) c.loop-n.n (omega (arith, c.loop-n-test.false))
    c.loop-n.invariant
