use Rattle.std.proofs.Common.{◌≡◌, ◌<◌, subst, arith}
use Rattle.ol_net.specs.Nets.{slot, Linked}
use Rattle.ol_net.specs.Numbered.{net_of, numbered_port}
use Rattle.ol_orders.proofs.ActivePairs.{no_pair}
use Rattle.ol_orders.proofs.playing.greater.Goals.{else-slot-eq0-via-then-slot-eq0+else-at-node, else-slot-eq0-via-else-slot-eq0}
use Rattle.ol_orders.proofs.playing.greater.Goals as goal

pub returns-in_default : goal.returns-in_default
returns-in_default c = record {
  some = tt;
  none = λ y r p. c.in_default.not-Active r ((c.facing.ensures.active r).1 p.active);
}

pub returns-then-at-node-clause-some : goal.returns-then-at-node-clause-some
returns-then-at-node-clause-some c =
    let l = subst (λ q. Linked (net_of c.args.net.now) (slot c.args.at.0 0)
    (numbered_port q)) c.in-Some-Of.field-0-is c.in-Some-Of.ensures.linked in (
      c.in-Active.field-0,
      record {
        lesser = c.if-at-node.true;
        linked = subst (λ s. Linked (net_of c.args.net.now) (slot c.args.at.0 0)
            (slot c.in-Some-Of.node.0 s)) c.if-slot-eq0.true l;
        active = (c.facing.ensures.active c.in-Active.field-0).0 c.in-Active.is;
      },
    )

pub returns-else-slot-eq0-clause-none : goal.returns-else-slot-eq0-clause-none
returns-else-slot-eq0-clause-none c =
    let l = subst (λ q. Linked (net_of c.args.net.now) (slot c.args.at.0 0)
    (numbered_port q)) c.in-Some-Of.field-0-is c.in-Some-Of.ensures.linked in
    let none = no_pair c.args.net.now c.is_net.ensures.net c.args.at.0 (slot c.in-Some-Of.node.0 c.in-Some-Of.slot) l in
    elim c.else-slot-eq0.branch [
      | else-slot-eq0-via-then-slot-eq0+else-at-node w ↦ none (λ y b e.
          let f = w.if-at-node.false in let q : c.in-Some-Of.node.0 ≡ y = cc in omega arith)
      | else-slot-eq0-via-else-slot-eq0 w ↦ none (λ y b e. w.if-slot-eq0.false (cc))
    ]
