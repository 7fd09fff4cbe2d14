use Rattle.std.proofs.Common.{◌+◌, subst}
use Rattle.ol_net.specs.Numbered.{net_of, numbered_port}
use Rattle.ol_context.specs.Paths.{Through}
use Rattle.ol_context.specs.Shapes.{context_of}
use Rattle.ol_context.specs.Crossed.{IfOut}
use Rattle.ol_context.specs.declared.answers.Cross.{Cross}
use Rattle.ol_context.proofs.Exits.{exit_exits, exit_stops, exit_stands, undefined_exits, undefined_stops}
use Rattle.ol_context.proofs.Exits.{undefined_stands, budget_exits, budget_stops, budget_stands}
use Rattle.ol_context.proofs.Walked.{begins, exits, goes_on, node_port, stands_last, stops}
use Rattle.ol_context.proofs.Turning.{leaves_exactly}
use Rattle.ol_context.specs.declared.answers.Walk.TheVariants as answer
use Rattle.ol_context.proofs.walking.walk.Goals as goal

pub loop-next-init : goal.loop-next-init
loop-next-init c = begins c.args.net.now c.args.from
    (context_of c.args.values.now c.args.context) c.args.values.now c.args.context c.args.edges
    c.requires.held c.requires.port

pub returns-in-Free-clause-exit : goal.returns-in-Free-clause-exit
returns-in-Free-clause-exit c =
    exit_exits (net_of c.args.net.now) c.is_net.ensures.net c.args.from
    (context_of c.args.values.now c.args.context) c.args.edges c.loop-next.values c.in-Free.port
    c.loop-next.context c.loop-next.made
    (exits c.args.net.now c.args.from (context_of c.args.values.now c.args.context)
    c.args.values.now c.loop-next.values c.loop-next.context c.loop-next.at c.loop-next.made
    c.args.edges c.loop-next.invariant c.in-Some.next c.in-Some.ensures.linked c.in-Free.port c.in-Free.is)

pub returns-in-Free-clause-undefined : goal.returns-in-Free-clause-undefined
returns-in-Free-clause-undefined c =
    exit_stops (net_of c.args.net.now) c.is_net.ensures.net c.args.from
    (context_of c.args.values.now c.args.context) c.args.edges c.loop-next.values c.in-Free.port
    c.loop-next.context c.loop-next.made
    (exits c.args.net.now c.args.from (context_of c.args.values.now c.args.context)
    c.args.values.now c.loop-next.values c.loop-next.context c.loop-next.at c.loop-next.made
    c.args.edges c.loop-next.invariant c.in-Some.next c.in-Some.ensures.linked c.in-Free.port c.in-Free.is)

pub returns-in-Free-clause-budget : goal.returns-in-Free-clause-budget
returns-in-Free-clause-budget c =
    exit_stands (net_of c.args.net.now) c.is_net.ensures.net c.args.from
    (context_of c.args.values.now c.args.context) c.args.edges c.loop-next.values c.in-Free.port
    c.loop-next.context c.loop-next.made
    (exits c.args.net.now c.args.from (context_of c.args.values.now c.args.context)
    c.args.values.now c.loop-next.values c.loop-next.context c.loop-next.at c.loop-next.made
    c.args.edges c.loop-next.invariant c.in-Some.next c.in-Some.ensures.linked c.in-Free.port c.in-Free.is)

pub returns-then-made-edges-clause-exit : goal.returns-then-made-edges-clause-exit
returns-then-made-edges-clause-exit c =
    budget_exits (net_of c.args.net.now) c.is_net.ensures.net c.args.from
    (context_of c.args.values.now c.args.context) c.args.edges c.loop-next.values
    (stands_last c.args.net.now c.args.from
    (context_of c.args.values.now c.args.context) c.args.values.now c.loop-next.values
    c.loop-next.context c.loop-next.at c.loop-next.made c.args.edges c.loop-next.invariant
    c.in-Some.next c.in-Some.ensures.linked c.in_default-next.not-Free c.if-made-edges.true)

pub returns-then-made-edges-clause-undefined : goal.returns-then-made-edges-clause-undefined
returns-then-made-edges-clause-undefined c =
    budget_stops (net_of c.args.net.now) c.is_net.ensures.net c.args.from
    (context_of c.args.values.now c.args.context) c.args.edges c.loop-next.values
    (stands_last c.args.net.now c.args.from
    (context_of c.args.values.now c.args.context) c.args.values.now c.loop-next.values
    c.loop-next.context c.loop-next.at c.loop-next.made c.args.edges c.loop-next.invariant
    c.in-Some.next c.in-Some.ensures.linked c.in_default-next.not-Free c.if-made-edges.true)

pub returns-then-made-edges-clause-budget : goal.returns-then-made-edges-clause-budget
returns-then-made-edges-clause-budget c =
    budget_stands (net_of c.args.net.now) c.is_net.ensures.net c.args.from
    (context_of c.args.values.now c.args.context) c.args.edges c.loop-next.values
    (stands_last c.args.net.now c.args.from
    (context_of c.args.values.now c.args.context) c.args.values.now c.loop-next.values
    c.loop-next.context c.loop-next.at c.loop-next.made c.args.edges c.loop-next.invariant
    c.in-Some.next c.in-Some.ensures.linked c.in_default-next.not-Free c.if-made-edges.true)

pub cross-requires-clause-port : goal.cross-requires-clause-port
cross-requires-clause-port c = node_port c.args.net.now c.is_net.ensures.net c.loop-next.at
    c.in-Some.next c.in-Some.ensures.linked c.in_default-next.not-Free

pub loop-next-preserved : goal.loop-next-preserved
loop-next-preserved c =
    goes_on c.args.net.now c.args.from (context_of c.args.values.now c.args.context)
    c.args.values.now c.loop-next.values c.loop-next.context c.loop-next.at c.loop-next.made
    c.args.edges c.loop-next.invariant c.in-Some.next c.in-Some.ensures.linked
    c.cross.new.values c.cross.new.context c.in-Out.port c.if-made-edges.false
    c.cross.ensures.extends c.cross.ensures.held
    (subst
    (λ (r : Cross). IfOut r (λ q. Through (net_of c.args.net.now) (numbered_port c.in-Some.next)
    (context_of c.loop-next.values c.loop-next.context) (numbered_port q)
    (context_of c.cross.new.values c.cross.new.context)))
    c.in-Out.is c.in_ok-crossed.ensures.out)

pub returns-in-Undefined-clause-exit : goal.returns-in-Undefined-clause-exit
returns-in-Undefined-clause-exit c =
    undefined_exits (net_of c.args.net.now) c.is_net.ensures.net c.args.from
    (context_of c.args.values.now c.args.context) c.args.edges c.cross.new.values (c.loop-next.made + 1)
    (stops c.args.net.now c.args.from (context_of c.args.values.now c.args.context)
    c.args.values.now c.loop-next.values c.loop-next.context c.loop-next.at c.loop-next.made
    c.args.edges c.loop-next.invariant c.in-Some.next c.in-Some.ensures.linked
    c.in_default-next.not-Free c.if-made-edges.false (c.in_ok-crossed.ensures.undefined.0 c.in-Undefined.is))

pub returns-in-Undefined-clause-undefined : goal.returns-in-Undefined-clause-undefined
returns-in-Undefined-clause-undefined c =
    undefined_stops (net_of c.args.net.now) c.is_net.ensures.net c.args.from
    (context_of c.args.values.now c.args.context) c.args.edges c.cross.new.values (c.loop-next.made + 1)
    (stops c.args.net.now c.args.from (context_of c.args.values.now c.args.context)
    c.args.values.now c.loop-next.values c.loop-next.context c.loop-next.at c.loop-next.made
    c.args.edges c.loop-next.invariant c.in-Some.next c.in-Some.ensures.linked
    c.in_default-next.not-Free c.if-made-edges.false (c.in_ok-crossed.ensures.undefined.0 c.in-Undefined.is))

pub returns-in-Undefined-clause-budget : goal.returns-in-Undefined-clause-budget
returns-in-Undefined-clause-budget c =
    undefined_stands (net_of c.args.net.now) c.is_net.ensures.net c.args.from
    (context_of c.args.values.now c.args.context) c.args.edges c.cross.new.values (c.loop-next.made + 1)
    (stops c.args.net.now c.args.from (context_of c.args.values.now c.args.context)
    c.args.values.now c.loop-next.values c.loop-next.context c.loop-next.at c.loop-next.made
    c.args.edges c.loop-next.invariant c.in-Some.next c.in-Some.ensures.linked
    c.in_default-next.not-Free c.if-made-edges.false (c.in_ok-crossed.ensures.undefined.0 c.in-Undefined.is))

pub returns-in-Free-clause-leaves : goal.returns-in-Free-clause-leaves
returns-in-Free-clause-leaves c = leaves_exactly
    (net_of c.args.net.now) c.is_net.ensures.net c.args.from
    (context_of c.args.values.now c.args.context) c.args.edges c.loop-next.values
    (answer.Exit c.in-Free.port c.loop-next.context c.loop-next.made) (returns-in-Free-clause-exit c)

pub returns-then-made-edges-clause-leaves : goal.returns-then-made-edges-clause-leaves
returns-then-made-edges-clause-leaves c = leaves_exactly
    (net_of c.args.net.now) c.is_net.ensures.net c.args.from
    (context_of c.args.values.now c.args.context) c.args.edges c.loop-next.values answer.Budget
    (returns-then-made-edges-clause-exit c)

pub returns-in-Undefined-clause-leaves : goal.returns-in-Undefined-clause-leaves
returns-in-Undefined-clause-leaves c = leaves_exactly
    (net_of c.args.net.now) c.is_net.ensures.net c.args.from
    (context_of c.args.values.now c.args.context) c.args.edges c.cross.new.values
    (answer.Undefined (c.loop-next.made + 1)) (returns-in-Undefined-clause-exit c)
