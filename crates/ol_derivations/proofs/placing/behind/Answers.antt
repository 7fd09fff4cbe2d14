use Rattle.std.proofs.Common.{◌≡◌, drop, ap, arith}
use Rattle.ol_derivations.specs.PlacesOfPaths.{taken}
use Rattle.ol_derivations.proofs.Reached.{none_taken}
use Rattle.ol_derivations.proofs.placing.behind.Goals as goal

pub returns-then-left-eq0-clause-place : goal.returns-then-left-eq0-clause-place
returns-then-left-eq0-clause-place c =
    let rest = drop c.loop-place.place c.args.tree.now in
    let e : c.loop-place.left ≡ 0 = omega (arith, c.if-left-eq0.true) in
    let a = ap (taken rest) e in
    omega (arith, a, none_taken rest, c.loop-place.invariant.same)
