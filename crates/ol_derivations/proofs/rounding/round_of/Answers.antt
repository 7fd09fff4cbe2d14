use Rattle.std.proofs.Common.{◌≡◌, ◌<◌, ◌≤◌, length, take, refl, arith}
use Rattle.ol_derivations.specs.PlacesOfPaths.{gone}
use Rattle.ol_derivations.proofs.Gone.{goes_in, goes_past, no_round, none_left, round_found}
use Rattle.ol_derivations.proofs.rounding.round_of.Goals as goal

pub returns-then-k-len : goal.returns-then-k-len
returns-then-k-len c part e = no_round part c.args.tree.now c.args.k e (omega (arith, c.if-k-len.true, c.len.ensures))

pub back-preserved-then-trees-args : goal.back-preserved-then-trees-args
back-preserved-then-trees-args c =
    let ns = c.args.tree.now in
    let pos : 0 < c.back.place = omega (arith, c.back-test.true) in
    let le : c.back.place ≤ length ns = omega (arith, c.back.invariant.within, c.if-k-len.false, c.len.ensures) in
    let x = c.lams_and_args-lams in
    record {
      within = omega (arith, c.back.invariant.within);
      few = omega (arith, c.back.invariant.within);
      same = goes_in ns c.back.place c.back.trees c.back.round c.node_at.result x.result.0 x.result.1
          (gone (take c.args.k ns) (0, 0)) pos le c.node_at.ensures x.ensures.lams x.ensures.args
          c.back.invariant.same c.in_ok-more.more c.in_ok-more.ensures (omega (arith, c.if-trees-args.true));
    }

pub back-preserved : goal.back-preserved
back-preserved c =
    let ns = c.args.tree.now in
    let pos : 0 < c.back.place = omega (arith, c.back-test.true) in
    let le : c.back.place ≤ length ns = omega (arith, c.back.invariant.within, c.if-k-len.false, c.len.ensures) in
    let x = c.lams_and_args-lams in
    let low : x.result.1 ≤ c.back.trees = omega (arith, c.if-trees-args.false) in
    record {
      within = omega (arith, c.back.invariant.within);
      few = omega (arith, c.back.invariant.few, pos, low);
      same = goes_past ns c.back.place c.back.trees c.back.round c.node_at.result x.result.0 x.result.1
          (gone (take c.args.k ns) (0, 0)) pos le c.node_at.ensures x.ensures.lams x.ensures.args
          c.back.invariant.same _ refl low;
    }

pub returns : goal.returns
returns c part e =
    let ns = c.args.tree.now in
    let z : c.back.place ≡ 0 = omega (arith, c.back-test.false) in
    let le : c.args.k < length ns = omega (arith, c.if-k-len.false, c.len.ensures) in
    round_found part ns c.args.k c.back.trees c.back.round e le
    (none_left ns c.back.place c.back.trees c.back.round (gone (take c.args.k ns) (0, 0)) z c.back.invariant.same)
