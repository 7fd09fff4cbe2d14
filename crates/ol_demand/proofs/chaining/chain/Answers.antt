use Rattle.std.proofs.Common.{◌*◌, ap, refl, subst, Option}
use Rattle.ol_net.specs.Numbered.{net_of, numbered_port}
use Rattle.ol_context.specs.Paths.{Through}
use Rattle.std.proofs.lemmas.Result.{err_from_is_err_and}
use Rattle.ol_context.proofs.Shapes.{extends_trans}
use Rattle.ol_context.specs.Shapes.{context_of}
use Rattle.ol_context.specs.Crossed.{IfOut}
use Rattle.ol_context.specs.declared.answers.Cross.{Cross}
use Rattle.ol_context.proofs.Walked.{node_port}
use Rattle.ol_net.specs.declared.parts.NodeId.{NodeId}
use Rattle.ol_demand.specs.Chaining.{FindsPair}
use Rattle.ol_demand.proofs.OnChains.{begins, chaining, on_and_on, meets, leaves, stops, spends}
use Rattle.ol_demand.proofs.chaining.chain.Goals as goal

pub cross-requires-clause-held : goal.cross-requires-clause-held
cross-requires-clause-held c = c.loop-next.invariant.held

pub returns-in_err-crossed-clause-held : goal.returns-in_err-crossed-clause-held
returns-in_err-crossed-clause-held c =
    let p = err_from_is_err_and c.from_residual.result c.from_residual.ensures.1 in rw p.1 tt

pub returns-in_err-crossed-clause-ends : goal.returns-in_err-crossed-clause-ends
returns-in_err-crossed-clause-ends c =
    let p = err_from_is_err_and c.from_residual.result c.from_residual.ensures.1 in rw p.1 tt

pub returns-in_err-crossed-clause-extends : goal.returns-in_err-crossed-clause-extends
returns-in_err-crossed-clause-extends c = extends_trans c.args.values.now c.loop-next.values
    c.cross.new.values c.loop-next.invariant.extends c.cross.ensures.extends

pub returns-in-Some-pair_at-clause-extends : goal.returns-in-Some-pair_at-clause-extends
returns-in-Some-pair_at-clause-extends c = c.loop-next.invariant.extends

pub returns-in-Some-pair_at-clause-held : goal.returns-in-Some-pair_at-clause-held
returns-in-Some-pair_at-clause-held c = c.loop-next.invariant.held

pub returns-in-Free-clause-extends : goal.returns-in-Free-clause-extends
returns-in-Free-clause-extends c = c.loop-next.invariant.extends

pub returns-in-Free-clause-held : goal.returns-in-Free-clause-held
returns-in-Free-clause-held c = c.loop-next.invariant.held

pub returns-in-Undefined-clause-extends : goal.returns-in-Undefined-clause-extends
returns-in-Undefined-clause-extends c = extends_trans c.args.values.now c.loop-next.values
    c.cross.new.values c.loop-next.invariant.extends c.cross.ensures.extends

pub returns-in-Undefined-clause-held : goal.returns-in-Undefined-clause-held
returns-in-Undefined-clause-held c = tt

pub returns-then-made-most-clause-extends : goal.returns-then-made-most-clause-extends
returns-then-made-most-clause-extends c = extends_trans c.args.values.now c.loop-next.values
    c.cross.new.values c.loop-next.invariant.extends c.cross.ensures.extends

pub returns-then-made-most-clause-held : goal.returns-then-made-most-clause-held
returns-then-made-most-clause-held c = tt

pub loop-next-init : goal.loop-next-init
loop-next-init c = begins c.args.net.now c.args.values.now c.args.walker (2 * c.nodes.result)
    c.requires.held c.requires.port (ap (λ n. 2 * n) c.nodes.ensures.nodes)

pub returns-in-Some-pair_at-clause-ends : goal.returns-in-Some-pair_at-clause-ends
returns-in-Some-pair_at-clause-ends c = λ p d h.
    let f = subst (λ (o : Option (NodeId × NodeId)).
    FindsPair c.args.net.now c.loop-next.at o) c.in-Some-pair_at.is c.pair_at.ensures in
    let w = chaining c.args.net.now c.args.values.now c.args.walker (2 * c.nodes.result)
    c.loop-next.values c.loop-next.context c.loop-next.at c.loop-next.made c.loop-next.invariant p d h in (
      meets c.args.net.now p d c.args.values.now (2 * c.nodes.result) c.loop-next.values
          c.loop-next.context c.loop-next.at c.loop-next.made w c.in-Some-pair_at.pair.0.0
          c.in-Some-pair_at.pair.1.0 f.1.0 f.0 f.1.1,
      f.0,
      w.chain,
    )

pub returns-in-Free-clause-ends : goal.returns-in-Free-clause-ends
returns-in-Free-clause-ends c = λ p d h.
    let w = chaining c.args.net.now c.args.values.now c.args.walker (2 * c.nodes.result)
    c.loop-next.values c.loop-next.context c.loop-next.at c.loop-next.made c.loop-next.invariant p d h in
    leaves c.args.net.now p d c.args.values.now (2 * c.nodes.result) c.loop-next.values
    c.loop-next.context c.loop-next.at c.loop-next.made w
    c.in-Some.next c.in-Some.ensures.linked c.in-Free.port c.in-Free.is

pub cross-requires-clause-port : goal.cross-requires-clause-port
cross-requires-clause-port c = node_port c.args.net.now c.is_net.ensures.net c.loop-next.at
    c.in-Some.next c.in-Some.ensures.linked c.in_default-next.not-Free

pub returns-in-Undefined-clause-ends : goal.returns-in-Undefined-clause-ends
returns-in-Undefined-clause-ends c = λ p d h.
    let f = subst (λ (o : Option (NodeId × NodeId)).
    FindsPair c.args.net.now c.loop-next.at o) c.in_default-pair_at.is c.pair_at.ensures in
    let w = chaining c.args.net.now c.args.values.now c.args.walker (2 * c.nodes.result)
    c.loop-next.values c.loop-next.context c.loop-next.at c.loop-next.made c.loop-next.invariant p d h in
    stops c.args.net.now p d c.args.values.now (2 * c.nodes.result) c.loop-next.values
    c.loop-next.context c.loop-next.at c.loop-next.made w
    c.in-Some.next c.in-Some.ensures.linked f c.in-Some.next refl c.in_default-next.not-Free
    (c.in_ok-crossed.ensures.undefined.0 c.in-Undefined.is)

pub returns-then-made-most-clause-ends : goal.returns-then-made-most-clause-ends
returns-then-made-most-clause-ends c = λ p d h.
    let f = subst (λ (o : Option (NodeId × NodeId)).
    FindsPair c.args.net.now c.loop-next.at o) c.in_default-pair_at.is c.pair_at.ensures in
    let w = chaining c.args.net.now c.args.values.now c.args.walker (2 * c.nodes.result)
    c.loop-next.values c.loop-next.context c.loop-next.at c.loop-next.made c.loop-next.invariant p d h in
    spends c.args.net.now p d c.args.values.now (2 * c.nodes.result) c.loop-next.values
    c.loop-next.context c.loop-next.at c.loop-next.made w
    c.in-Some.next c.in-Some.ensures.linked f c.cross.new.values c.cross.new.context c.in-Out.port
    c.in-Some.next refl c.in_default-next.not-Free c.if-made-most.true
    (subst
    (λ (r : Cross). IfOut r (λ q. Through (net_of c.args.net.now) (numbered_port c.in-Some.next)
    (context_of c.loop-next.values c.loop-next.context) (numbered_port q)
    (context_of c.cross.new.values c.cross.new.context)))
    c.in-Out.is c.in_ok-crossed.ensures.out)

pub loop-next-preserved : goal.loop-next-preserved
loop-next-preserved c =
    let f = subst (λ (o : Option (NodeId × NodeId)).
    FindsPair c.args.net.now c.loop-next.at o) c.in_default-pair_at.is c.pair_at.ensures in
    on_and_on c.args.net.now c.args.values.now c.args.walker (2 * c.nodes.result)
    c.loop-next.values c.loop-next.context c.loop-next.at c.loop-next.made c.loop-next.invariant
    c.in-Some.next c.in-Some.ensures.linked f c.cross.new.values c.cross.new.context c.in-Out.port
    c.if-made-most.false c.cross.ensures.extends c.cross.ensures.held
    (subst
    (λ (r : Cross). IfOut r (λ q. Through (net_of c.args.net.now) (numbered_port c.in-Some.next)
    (context_of c.loop-next.values c.loop-next.context) (numbered_port q)
    (context_of c.cross.new.values c.cross.new.context)))
    c.in-Out.is c.in_ok-crossed.ensures.out)
