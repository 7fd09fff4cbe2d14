use Rattle.std.proofs.Common.{subst}
use Rattle.ol_net.specs.Numbered.{net_of, numbered_port}
use Rattle.ol_context.specs.Paths.{Through}
use Rattle.ol_context.specs.Shapes.{context_of}
use Rattle.ol_context.specs.Crossed.{IfOut}
use Rattle.ol_context.specs.declared.answers.Cross.{Cross}
use Rattle.ol_context.proofs.Walked.{node_port}
use Rattle.ol_decoding.proofs.Trailed.{leaves, used_up, stops, goes_on}
use Rattle.ol_decoding.proofs.trailing.trail.Goals as goal

pub returns-in-Free-clause-trail : goal.returns-in-Free-clause-trail
returns-in-Free-clause-trail c =
    leaves c.args.net.now c.is_net.ensures.net c.args.from (context_of c.args.values.now c.args.context) c.args.lines
    c.args.values.now c.args.text.now.items c.loop-next.values c.loop-next.context c.loop-next.at c.loop-next.left
    c.loop-next.text.items c.loop-next.invariant c.in-Some.next c.in-Some.ensures.linked c.in-Free.port
    c.put_gone.new.text.items c.in-Free.is c.in_ok-put_gone.ensures

pub returns-then-left-eq0-clause-trail : goal.returns-then-left-eq0-clause-trail
returns-then-left-eq0-clause-trail c =
    used_up c.args.net.now c.is_net.ensures.net c.args.from (context_of c.args.values.now c.args.context) c.args.lines
    c.args.values.now c.args.text.now.items c.loop-next.values c.loop-next.context c.loop-next.at c.loop-next.left
    c.loop-next.text.items c.loop-next.invariant c.in-Some.next c.in-Some.ensures.linked
    (node_port c.args.net.now c.is_net.ensures.net c.loop-next.at c.in-Some.next c.in-Some.ensures.linked
    c.in_default-next.not-Free) c.if-left-eq0.true c.put.new.text.items c.in_ok-put.ensures

pub cross-requires-clause-port : goal.cross-requires-clause-port
cross-requires-clause-port c = node_port c.args.net.now c.is_net.ensures.net c.loop-next.at
    c.in-Some.next c.in-Some.ensures.linked c.in_default-next.not-Free

pub put_crossing-requires-clause-port : goal.put_crossing-requires-clause-port
put_crossing-requires-clause-port c = node_port c.args.net.now c.is_net.ensures.net c.loop-next.at
    c.in-Some.next c.in-Some.ensures.linked c.in_default-next.not-Free

pub put_barred-requires : goal.put_barred-requires
put_barred-requires c = record {
  port = node_port c.args.net.now c.is_net.ensures.net c.loop-next.at
      c.in-Some.next c.in-Some.ensures.linked c.in_default-next.not-Free;
}

pub loop-next-preserved : goal.loop-next-preserved
loop-next-preserved c =
    goes_on c.args.net.now c.is_net.ensures.net c.args.from (context_of c.args.values.now c.args.context) c.args.lines
    c.args.values.now c.args.text.now.items c.loop-next.values c.loop-next.context c.loop-next.at c.loop-next.left
    c.loop-next.text.items c.loop-next.invariant c.in-Some.next c.in-Some.ensures.linked c.if-left-eq0.false
    c.cross.new.values c.cross.new.context c.in-Out.out c.put_crossing.new.text.items
    c.cross.ensures.extends c.cross.ensures.held
    (subst
    (λ (r : Cross). IfOut r (λ q. Through (net_of c.args.net.now) (numbered_port c.in-Some.next)
    (context_of c.loop-next.values c.loop-next.context) (numbered_port q)
    (context_of c.cross.new.values c.cross.new.context)))
    c.in-Out.is c.in_ok-crossed.ensures.out) c.in_ok-put_crossing-in-Out.ensures

pub returns-in-Undefined-clause-trail : goal.returns-in-Undefined-clause-trail
returns-in-Undefined-clause-trail c =
    stops c.args.net.now c.is_net.ensures.net c.args.from (context_of c.args.values.now c.args.context) c.args.lines
    c.args.values.now c.args.text.now.items c.loop-next.values c.loop-next.context c.loop-next.at c.loop-next.left
    c.loop-next.text.items c.loop-next.invariant c.in-Some.next c.in-Some.ensures.linked c.if-left-eq0.false
    (c.in_ok-crossed.ensures.undefined.0 c.in-Undefined.is) c.put_barred.new.text.items c.in_ok-put_barred-in-Undefined.ensures
