use Rattle.std.proofs.Common.{◌≡◌, ◌+◌, ◌*◌, ◌≤◌, true, length, arith, rules, ap, ◌∙◌}
use Rattle.ol_orders.specs.Same.{here, pair_at}
use Rattle.ol_orders.proofs.Walking.{steps_on, walks_to_end}
use Rattle.ol_orders.proofs.comparing.walk.Goals as goal

pub loop-at-init : goal.loop-at-init
loop-at-init c = (c.requires.tables, here)

pub loop-at-preserved : goal.loop-at-preserved
loop-at-preserved c =
    let l = c.loop-at in
    let size : c.len.result ≡ length l.met.pairs.items = search rules in
    let pairs : c.deref.result.now ≡ l.met.pairs.items = c.deref.ensures.value in
    let pair = c.pair_at-x.ensures ∙ ap (λ ps. pair_at c.free_ports-free.result ps l.at) pairs in
    let yes : c.in_ok-match_partners.field-0 ≡ true = (let f = c.if-not-branch.false in cc) in (
      c.in_ok-match_partners.ensures.tables,
      steps_on c.args.a.now c.args.b.now c.args.from c.args.met.now.pairs.items l.at l.met.pairs.items l.invariant.1
          c.free_ports-free.result c.len.result c.free_ports-free.ensures.free size c.loop-at-test.true
          c.pair_at-x.result.0 c.pair_at-x.result.1 c.port_on-port.result c.port_on-other.result pair
          c.port_on-port.ensures c.port_on-other.ensures c.in_ok-match_partners.field-0 c.match_partners.new.met.pairs.items yes
          c.in_ok-match_partners.ensures.told,
    )

pub returns-clause-found : goal.returns-clause-found
returns-clause-found c =
    let l = c.loop-at in
    let size : c.len.result ≡ length l.met.pairs.items = search rules in
    let end : c.args.a.now.free + 3 * length l.met.pairs.items ≤ l.at =
    omega (arith, c.loop-at-test.false, c.free_ports-free.ensures.free, size) in
    walks_to_end c.args.a.now c.args.b.now c.args.from c.args.met.now.pairs.items c.requires.from l.at l.met.pairs.items
    l.invariant.1 end
