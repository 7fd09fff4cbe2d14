use Rattle.std.proofs.Common.{◌≡◌, length, sym, subst, arith}
use Rattle.ol_explain.specs.Found.{AreFound}
use Rattle.ol_explain.proofs.Finds.{found_first}
use Rattle.ol_explain.proofs.left.find.Goals as goal

pub loop-n-init : goal.loop-n-init
loop-n-init c =
    let u = c.requires.replay in
    subst (λ es. AreFound c.args.replay.now 0 es 0) (sym c.new-told.ensures.empty)
    (found_first u.0 c.args.replay.now u.1)

pub add-requires-clause-below : goal.add-requires-clause-below
add-requires-clause-below c =
    let e = c.born-n-end.ensures.born in
    let b = c.loop-n-test.true in
    omega arith

pub returns : goal.returns
returns c =
    let e = c.born-n-end.ensures.born in
    let t = c.loop-n-test.false in
    subst (λ n. AreFound c.args.replay.now n c.loop-n.found.told c.loop-n.found.more)
    (let q : c.loop-n.n ≡ length c.args.replay.now.net.nodes = omega arith in q) c.loop-n.invariant
