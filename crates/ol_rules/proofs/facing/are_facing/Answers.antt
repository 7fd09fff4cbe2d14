use Rattle.std.proofs.Common.{eqb-true, eq-eqb, sym}
use Rattle.ol_net.specs.Nets.{slot}
use Rattle.ol_net.specs.Numbered.{net_of}
use Rattle.ol_rules.proofs.FreshPairs.{linked_sym}
use Rattle.ol_rules.proofs.facing.are_facing.Goals as goal

pub returns-in-Some : goal.returns-in-Some
returns-in-Some c =
    let x = c.args.x.0 in
    let y = c.args.y.0 in
    let N = net_of c.args.net.now in (
      (λ e. linked_sym N (slot y 0) (slot x 0)
          ((c.in-Some.ensures y).1 (sym (eqb-true c.in-Some.node.0 y e)))),
      (λ l. eq-eqb c.in-Some.node.0 y (sym ((c.in-Some.ensures y).0 (linked_sym N (slot x 0) (slot y 0) l)))),
    )

pub returns-in-None : goal.returns-in-None
returns-in-None c = (
  (λ e. absurd (cc)),
  (λ l. absurd (c.in-None.ensures c.args.y.0 (linked_sym (net_of c.args.net.now) (slot c.args.x.0 0) (slot c.args.y.0 0) l))),
)
