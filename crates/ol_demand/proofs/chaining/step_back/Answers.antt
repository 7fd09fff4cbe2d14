use Rattle.std.proofs.Common.{subst}
use Rattle.ol_net.specs.Numbered.{net_of, numbered_port}
use Rattle.ol_context.specs.Paths.{Through}
use Rattle.ol_context.specs.Shapes.{context_of}
use Rattle.ol_context.specs.Crossed.{IfOut}
use Rattle.ol_context.specs.declared.answers.Cross.{Cross}
use Rattle.ol_context.proofs.Walked.{through_port}
use Rattle.ol_demand.proofs.StepBacks.{is_node, not_barred, steps_back}
use Rattle.ol_demand.proofs.chaining.step_back.Goals as goal

pub cross-requires-clause-port : goal.cross-requires-clause-port
cross-requires-clause-port c = is_node c.args.net.now c.is_net.ensures.net c.args.values.now c.args.walker c.requires.at

pub unreachable-requires : goal.unreachable-requires
unreachable-requires c = not_barred c.args.net.now c.is_net.ensures.net c.args.values.now c.args.walker
    c.requires.at (c.in_ok-crossed.ensures.undefined.0 c.in_default.is)

pub unreachable-requires-in_default-partner : goal.unreachable-requires-in_default-partner
unreachable-requires-in_default-partner c =
    let y = subst
    (λ (r : Cross). IfOut r (λ q. Through (net_of c.args.net.now) (numbered_port c.args.walker.at)
    (context_of c.args.values.now c.args.walker.context) (numbered_port q)
    (context_of c.cross.new.values c.cross.new.context))) c.in-Out.is c.in_ok-crossed.ensures.out in
    c.in_default-partner.ensures.none (through_port (net_of c.args.net.now) (numbered_port c.args.walker.at)
    (numbered_port c.in-Out.port) (context_of c.args.values.now c.args.walker.context)
    (context_of c.cross.new.values c.cross.new.context) y)

pub returns-clause-back : goal.returns-clause-back
returns-clause-back c =
    let y = subst
    (λ (r : Cross). IfOut r (λ q. Through (net_of c.args.net.now) (numbered_port c.args.walker.at)
    (context_of c.args.values.now c.args.walker.context) (numbered_port q)
    (context_of c.cross.new.values c.cross.new.context))) c.in-Out.is c.in_ok-crossed.ensures.out in
    steps_back c.args.net.now c.is_net.ensures.net c.args.values.now c.args.walker c.cross.new.values
    c.cross.new.context c.in-Out.port c.in-Some.at y c.in-Some.ensures.linked c.cross.ensures.held c.requires.at
