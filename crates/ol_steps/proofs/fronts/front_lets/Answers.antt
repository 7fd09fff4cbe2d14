use Rattle.std.proofs.Common.{◌≡◌, ◌+◌, ◌-◌, ◌<◌, ◌≤◌, length, length-drop, sym, ap, ◌∙◌, subst, arith}
use Rattle.ol_steps.specs.declared.fronts.Spot.{Spot}
use Rattle.ol_steps.specs.Scanned.{open_in, spot_after}
use Rattle.ol_places.specs.Tokens.{kind_token}
use Rattle.ol_steps.proofs.Counting.{counted_begin, counted_more, counted_end, open_few}
use Rattle.ol_steps.proofs.fronts.front_lets.Goals as goal

pub loop-first-init : goal.loop-first-init
loop-first-init c = (counted_begin c.args.bytes.now, omega arith, omega arith)

pub returns : goal.returns
returns c = counted_end c.loop-first.lets c.loop-first.spot c.loop-first.invariant.0 c.in_default.ensures.first

pub loop-first-preserved : goal.loop-first-preserved
loop-first-preserved c =
    let f = c.in-Some.first in
    let k = kind_token f.kind c.split_at-in-Some.result.0.now in
    let deep : open_in (spot_after c.loop-first.spot k) ≤ open_in c.loop-first.spot + 1 = open_few c.loop-first.spot k in
    let spot : c.spot_after-spot.result ≡ spot_after c.loop-first.spot k = c.spot_after-spot.ensures in
    let n : c.lets_begun-lets.result ≤ 1 = c.lets_begun-lets.ensures.few in
    let behind : length c.split_at.result.1.now ≡ length c.loop-first.rest.now - f.gap =
    ap length c.split_at.ensures.back ∙ length-drop f.gap c.loop-first.rest.now in
    let left : length c.split_at-in-Some.result.1.now ≡ length c.split_at.result.1.now - f.length =
    ap length c.split_at-in-Some.ensures.back ∙ length-drop f.length c.split_at.result.1.now in
    let within : f.gap + f.length ≤ length c.loop-first.rest.now = c.in-Some.ensures.within in
    let some : 0 < f.length = c.in-Some.ensures.some in
    let lets = c.loop-first.invariant.1 in
    let opened : open_in c.spot_after-spot.result ≤ open_in c.loop-first.spot + 1 =
    subst (λ (p : Spot). open_in p ≤ open_in c.loop-first.spot + 1) (sym spot) deep in
    let deeper = c.loop-first.invariant.2 in (
      counted_more c.loop-first.lets f c.loop-first.spot c.spot_after-spot.result c.lets_begun-lets.result
          c.split_at.ensures.back c.split_at-in-Some.ensures.front c.split_at-in-Some.ensures.back
          c.in-Some.ensures.first c.loop-first.invariant.0 c.lets_begun-lets.ensures.count spot,
      omega (arith, lets, n, behind, left, within, some),
      omega (arith, deeper, opened, behind, left, within, some),
    )
