use Rattle.std.proofs.Common.{◌≡◌, sym, subst, ap, ◌∙◌}
use Rattle.ol_net.specs.declared.parts.Port.{Port}
use Rattle.ol_net.specs.Nets.{slot, Linked}
use Rattle.ol_net.specs.Numbered.{net_of, numbered_port, PortsLinked}
use Rattle.ol_demand.specs.Chains.{IsAtNoPair}
use Rattle.ol_demand.proofs.Pairs.{none_active, no_free, no_auxiliary}
use Rattle.ol_demand.proofs.chaining.pair_at.Goals as goal

pub returns-in_default-next : goal.returns-in_default-next
returns-in_default-next c =
    let l = subst (λ (q : Port). PortsLinked c.args.net.now c.args.at q) c.in_default-next.is c.requires in
    no_free (net_of c.args.net.now) c.is_net.ensures.net (numbered_port c.args.at) c.in_default-next.field-0 l

pub returns-then-entered-ne0 : goal.returns-then-entered-ne0
returns-then-entered-ne0 c =
    let l = subst (λ (q : Port). PortsLinked c.args.net.now c.args.at q) c.in-Of-next.is c.requires in
    no_auxiliary (net_of c.args.net.now) c.is_net.ensures.net
    (numbered_port c.args.at) c.in-Of-next.second.0 c.in-Of-next.entered c.if-entered-ne0.true l

pub returns-in_default-facing : goal.returns-in_default-facing
returns-in_default-facing c =
    let at : numbered_port c.args.at ≡ slot c.in-Of.first.0 0 = ap numbered_port c.in-Of.is
    ∙ ap (slot c.in-Of.first.0) c.if-slot-ne0.false in
    subst (IsAtNoPair (net_of c.args.net.now)) (sym at)
    (none_active (net_of c.args.net.now) c.in-Of.first.0
    (λ r a. c.in_default-facing.not-Active r ((c.facing.ensures.active r).1 a)))

pub returns : goal.returns
returns c =
    let at : numbered_port c.args.at ≡ slot c.in-Of.first.0 0 = ap numbered_port c.in-Of.is
    ∙ ap (slot c.in-Of.first.0) c.if-slot-ne0.false in
    let next : numbered_port c.args.next ≡ slot c.in-Of-next.second.0 0 = ap numbered_port
    c.in-Of-next.is ∙ ap (slot c.in-Of-next.second.0) c.if-entered-ne0.false in
    let l : Linked (net_of c.args.net.now) (slot c.in-Of.first.0 0) (slot c.in-Of-next.second.0 0) =
    subst (λ p. Linked (net_of c.args.net.now) p (slot c.in-Of-next.second.0 0)) at
    (subst (λ q. Linked (net_of c.args.net.now) (numbered_port c.args.at) q) next c.requires) in
    (at, (c.in-Active.field-0, ((c.facing.ensures.active c.in-Active.field-0).0 c.in-Active.is, l)))
