use Rattle.std.proofs.Common.{subst, arith}
use Rattle.ol_net.specs.Nets.{slot, Linked}
use Rattle.ol_net.specs.Numbered.{net_of, numbered_port}
use Rattle.ol_explain.proofs.Finds.{pair_is, none_active, none_less, none_free, none_there}
use Rattle.ol_explain.proofs.left.pair_at.Goals as goal

pub returns-in_default : goal.returns-in_default
returns-in_default c =
    let u = c.requires.replay in
    none_active u.0 c.args.replay.now u.1 c.args.at.0 c.requires.below
    (λ r a. c.in_default.not-Active r ((c.facing.ensures.active r).1 a))

pub returns-then-node-at : goal.returns-then-node-at
returns-then-node-at c =
    let u = c.requires.replay in
    none_less u.0 c.args.replay.now u.1 c.args.at.0 c.requires.below c.in-Some-Of.node.0 c.in-Some-Of.field-0-1
    (subst (λ q. Linked (net_of c.args.replay.now.net) (slot c.args.at.0 0) (numbered_port q))
    c.in-Some-Of.field-0-is c.in-Some-Of.ensures.linked) c.if-node-at.true

pub returns-else-node-at : goal.returns-else-node-at
returns-else-node-at c =
    let u = c.requires.replay in
    pair_is u.0 c.args.replay.now u.1 c.args.at.0 c.requires.below c.in-Active.rule
    ((c.facing.ensures.active c.in-Active.rule).0 c.in-Active.is) c.in-Some-Of.node.0 c.in-Some-Of.field-0-1
    (subst (λ q. Linked (net_of c.args.replay.now.net) (slot c.args.at.0 0) (numbered_port q))
    c.in-Some-Of.field-0-is c.in-Some-Of.ensures.linked)
    (λ l. let m = c.if-node-at.false in omega arith)
    c.name_of.result c.name_of-in-Some-Of.result c.name_of.ensures c.name_of-in-Some-Of.ensures

pub returns-in-Some-Free : goal.returns-in-Some-Free
returns-in-Some-Free c =
    let u = c.requires.replay in
    none_free u.0 c.args.replay.now u.1 c.args.at.0 c.requires.below c.in-Some-Free.field-0-0
    (subst (λ q. Linked (net_of c.args.replay.now.net) (slot c.args.at.0 0) (numbered_port q))
    c.in-Some-Free.field-0-is c.in-Some-Free.ensures.linked)

pub returns-in-None : goal.returns-in-None
returns-in-None c =
    let u = c.requires.replay in
    none_there u.0 c.args.replay.now u.1 c.args.at.0 c.requires.below c.in-None.ensures.none
