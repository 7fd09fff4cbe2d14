use Rattle.std.proofs.Common.{◌≡◌, subst}
use Rattle.ol_net.specs.Nets.{slot, free, Linked}
use Rattle.ol_net.specs.Numbered.{net_of, numbered_port}
use Rattle.ol_explain.proofs.WhyNot.{faced_slot, faced_none}
use Rattle.ol_explain.proofs.causes.faced.Goals as goal

pub returns-in-Some-Free : goal.returns-in-Some-Free
returns-in-Some-Free c =
    let u = c.requires.replay in
    faced_none u.0 c.args.replay.now u.1 c.args.x c.requires.live (free c.in-Some-Free.field-0-0)
    (subst (λ q. Linked (net_of c.args.replay.now.net) (slot c.args.x.0 0) (numbered_port q))
    c.in-Some-Free.field-0-is c.in-Some-Free.ensures.linked) (λ n e. absurd (cc))

pub returns-then-slot-eq0 : goal.returns-then-slot-eq0
returns-then-slot-eq0 c =
    let u = c.requires.replay in
    faced_slot u.0 c.args.replay.now u.1 c.args.x.0 c.in-Some-Of.node.0
    (subst (λ s. Linked (net_of c.args.replay.now.net) (slot c.args.x.0 0) (slot c.in-Some-Of.node.0 s))
    c.if-slot-eq0.true
    (subst (λ q. Linked (net_of c.args.replay.now.net) (slot c.args.x.0 0) (numbered_port q))
    c.in-Some-Of.field-0-is c.in-Some-Of.ensures.linked)) c.name_of-name.result c.name_of-name.ensures

pub returns-else-slot-eq0 : goal.returns-else-slot-eq0
returns-else-slot-eq0 c =
    let u = c.requires.replay in
    faced_none u.0 c.args.replay.now u.1 c.args.x c.requires.live (slot c.in-Some-Of.node.0 c.in-Some-Of.slot)
    (subst (λ q. Linked (net_of c.args.replay.now.net) (slot c.args.x.0 0) (numbered_port q))
    c.in-Some-Of.field-0-is c.in-Some-Of.ensures.linked)
    (λ n e. c.if-slot-eq0.false (let q : c.in-Some-Of.slot ≡ 0 = cc in q))
