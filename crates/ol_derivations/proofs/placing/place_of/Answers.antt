use Rattle.std.proofs.Common.{◌≡◌, ◌+◌, ◌-◌, drop, sym, ap, ◌∙◌, arith, rules}
use Rattle.ol_derivations.specs.PlacesOfPaths.{taken}
use Rattle.ol_derivations.proofs.Reached.{path_reaches, reached_end, reached_step}
use Rattle.ol_derivations.proofs.placing.place_of.Goals as goal

pub loop-i-preserved : goal.loop-i-preserved
loop-i-preserved c =
    let ns = c.args.tree.now in
    let p = c.loop-i.place in
    let e : c.saturating_sub.result ≡ c.in-Some.argument - 1 = search rules in
    record {
      near = omega (arith, c.behind-place.ensures.near, c.loop-i.invariant.near);
      same = reached_step ns c.args.path.now c.loop-i.i p c.in-Some.argument c.behind-place.result
          (sym c.in-Some.ensures.number)
          (c.behind-place.ensures.place ∙ ap (λ m. p + 1 + taken (drop (p + 1) ns) m) e)
          ∙ c.loop-i.invariant.same;
    }

pub returns : goal.returns
returns c k h =
    let ns = c.args.tree.now in
    let js = c.args.path.now in
    reached_end ns js c.loop-i.i c.loop-i.place k (omega (arith, c.loop-i-test.false, c.len-i-end.ensures))
    (c.loop-i.invariant.same ∙ path_reaches ns k js h)
