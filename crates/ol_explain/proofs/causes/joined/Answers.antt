use Rattle.std.proofs.Common.{subst}
use Rattle.ol_net.specs.Nets.{slot, Linked}
use Rattle.ol_net.specs.Numbered.{net_of, numbered_port}
use Rattle.ol_explain.proofs.WhyNot.{idle_free, idle_slot, idle_stuck}
use Rattle.ol_explain.proofs.causes.joined.Goals as goal

pub returns-then-node-y : goal.returns-then-node-y
returns-then-node-y c =
    let u = c.requires.replay in
    let l = subst (λ q. Linked (net_of c.args.replay.now.net) (slot c.args.x.0 0) (numbered_port q))
    c.in-Some-Of.field-0-is c.in-Some-Of.ensures.linked in
    idle_stuck u.0 c.args.replay.now u.1 c.args.x c.args.y c.requires.first c.requires.second
    (subst (λ n. Linked (net_of c.args.replay.now.net) (slot c.args.x.0 0) (slot n 0)) c.if-node-y.true
    (subst (λ s. Linked (net_of c.args.replay.now.net) (slot c.args.x.0 0) (slot c.in-Some-Of.node.0 s))
    c.if-slot-eq0.true l))

pub returns-in-Some-Free : goal.returns-in-Some-Free
returns-in-Some-Free c =
    let u = c.requires.replay in
    idle_free u.0 c.args.replay.now u.1 c.args.x c.args.y c.requires.first c.requires.second c.requires.copies c.in-Some-Free.port
    (subst (λ q. Linked (net_of c.args.replay.now.net) (slot c.args.x.0 0) (numbered_port q))
    c.in-Some-Free.field-0-is c.in-Some-Free.ensures.linked)

pub returns-else-slot-eq0 : goal.returns-else-slot-eq0
returns-else-slot-eq0 c =
    let u = c.requires.replay in
    idle_slot u.0 c.args.replay.now u.1 c.args.x c.args.y c.requires.first c.requires.second
    c.requires.copies c.in-Some-Of.node.0 c.in-Some-Of.slot
    (subst (λ q. Linked (net_of c.args.replay.now.net) (slot c.args.x.0 0) (numbered_port q))
    c.in-Some-Of.field-0-is c.in-Some-Of.ensures.linked) c.else-slot-eq0.either c.name_of-name.result
    c.name_of-name.ensures
