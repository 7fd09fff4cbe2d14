use Rattle.std.proofs.Common.{◌≡◌, sym, subst, ap, ◌∙◌}
use Rattle.ol_net.specs.Nets.{slot}
use Rattle.ol_net.specs.Numbered.{net_of, numbered_port}
use Rattle.ol_demand.specs.Chains.{IsAtNoPair}
use Rattle.ol_demand.proofs.Pairs.{none_active}
use Rattle.ol_decoding.proofs.chaining.met_at.Goals as goal

pub returns-in-Active : goal.returns-in-Active
returns-in-Active c =
    let at : numbered_port c.args.at ≡ slot c.in-Of.node.0 0 = ap numbered_port c.in-Of.is
    ∙ ap (slot c.in-Of.node.0) c.if-slot-ne0.false in (
      at,
      (
        c.in-Active.field-0,
        sym c.facing.ensures.table ∙ c.in-Active.is,
        (c.facing.ensures.active c.in-Active.field-0).0 c.in-Active.is,
      ),
    )

pub returns-in_default-facing : goal.returns-in_default-facing
returns-in_default-facing c =
    let at : numbered_port c.args.at ≡ slot c.in-Of.node.0 0 = ap numbered_port c.in-Of.is
    ∙ ap (slot c.in-Of.node.0) c.if-slot-ne0.false in
    subst (IsAtNoPair (net_of c.args.net.now)) (sym at)
    (none_active (net_of c.args.net.now) c.in-Of.node.0
    (λ r a. c.in_default-facing.not-Active r ((c.facing.ensures.active r).1 a)))
