use Rattle.std.proofs.Common.{◌+◌, map, sym, ap, ◌∙◌, subst}
use Rattle.ol_net.specs.Nets.{free}
use Rattle.ol_net.specs.Numbered.{net_of, numbered_port}
use Rattle.ol_context.specs.Contexts.{Context}
use Rattle.ol_context.specs.Shapes.{value}
use Rattle.ol_context.specs.Asked.{asked}
use Rattle.ol_context.specs.Ways.{Exits}
use Rattle.ol_context.specs.Crossed.{IfOut}
use Rattle.ol_context.specs.Open.{Open}
use Rattle.ol_context.specs.Passed.{OpenThrough}
use Rattle.ol_context.specs.OpenWalkAnswers.{OpenExitsExactly, OpenStopsExactly, OpenStandsExactly}
use Rattle.ol_context.specs.declared.answers.Cross.{Cross}
use Rattle.ol_context.specs.declared.answers.OpenWalk.TheVariants.{Exit, Undefined, Budget}
use Rattle.ol_context.proofs.Walked.{node_port}
use Rattle.ol_context.proofs.OpenWalked.{begins_open, all_below, exits_open, stands_open, goes_on_open, all_stop}
use Rattle.ol_context.proofs.OpenWalked.{open_exit_exits, open_exit_stops, open_exit_stands, open_budget_exits}
use Rattle.ol_context.proofs.OpenWalked.{open_budget_stops, open_budget_stands, open_undefined_exits}
use Rattle.ol_context.proofs.OpenWalked.{open_undefined_stops, open_undefined_stands}
use Rattle.ol_context.proofs.open_walking.walk_open.Goals as goal

pub loop-next-init : goal.loop-next-init
loop-next-init g c = begins_open c.args.net.now c.args.from c.args.values.now c.args.levels.items
    c.of-context.result c.args.edges c.args.steps.now c.of-context.ensures c.requires.held c.requires.port

pub cross_open-requires-clause-port : goal.cross_open-requires-clause-port
cross_open-requires-clause-port g c = node_port c.args.net.now c.is_net.ensures.net c.loop-next.at
    c.in-Some.next c.in-Some.ensures.linked c.in_default-next.not-Free

pub loop-next-preserved : goal.loop-next-preserved
loop-next-preserved g c =
    goes_on_open c.args.net.now c.args.from
    (map (value c.args.values.now) c.args.levels.items) c.args.values.now c.loop-next.values
    c.loop-next.context c.loop-next.at c.loop-next.made c.args.edges c.args.steps.now
    c.loop-next.steps c.loop-next.invariant c.in-Some.next c.in-Some.ensures.linked
    c.in_default-next.not-Free c.if-made-edges.false
    c.cross_open.new.values c.cross_open.new.context c.in-Out.port c.cross_open.new.steps
    c.cross_open.ensures.extends c.cross_open.ensures.held c.cross_open.ensures.lams c.cross_open.ensures.ticks
    (subst
    (λ (r : Cross). IfOut r (λ q. OpenThrough (net_of c.args.net.now) (numbered_port c.in-Some.next)
    (numbered_port q) c.loop-next.values c.cross_open.new.values c.loop-next.context c.cross_open.new.context))
    c.in-Out.is c.in_ok-crossed.ensures.out)

pub returns-in-Free-clause-exit : goal.returns-in-Free-clause-exit
returns-in-Free-clause-exit g c =
    subst (λ n. OpenExitsExactly (net_of c.args.net.now) c.args.from
    (map (value c.args.values.now) c.args.levels.items) c.args.edges c.closed.new.values
    (Exit n c.in-Free.port c.in_ok-context.context c.loop-next.made)) (sym c.lams-lams.ensures)
    (open_exit_exits (net_of c.args.net.now) c.is_net.ensures.net c.args.from
    (map (value c.args.values.now) c.args.levels.items) c.args.edges c.closed.new.values
    c.loop-next.context.lams c.in-Free.port c.in_ok-context.context c.loop-next.made
    (subst (λ (d : Context). Exits (net_of c.args.net.now) (free c.args.from)
    (asked (map (value c.args.values.now) c.args.levels.items) c.loop-next.context.lams)
    c.args.edges c.in-Free.port d c.loop-next.made) (sym c.in_ok-context.ensures.is)
    (exits_open c.args.net.now c.args.from
    (map (value c.args.values.now) c.args.levels.items) c.args.values.now c.loop-next.values
    c.loop-next.context c.loop-next.at c.loop-next.made c.args.edges c.args.steps.now
    c.loop-next.steps c.loop-next.invariant c.in-Some.next c.in-Some.ensures.linked
    c.in-Free.port c.in-Free.is)) (all_below c.args.net.now c.args.from
    (map (value c.args.values.now) c.args.levels.items) c.args.values.now c.loop-next.values
    c.loop-next.context c.loop-next.at c.loop-next.made c.args.edges c.args.steps.now
    c.loop-next.steps c.loop-next.invariant))

pub returns-then-made-edges-clause-exit : goal.returns-then-made-edges-clause-exit
returns-then-made-edges-clause-exit g c =
    subst (λ n. OpenExitsExactly (net_of c.args.net.now) c.args.from
    (map (value c.args.values.now) c.args.levels.items) c.args.edges c.loop-next.values
    (Budget n)) (sym c.lams-lams-then-made-edges.ensures)
    (open_budget_exits (net_of c.args.net.now) c.is_net.ensures.net c.args.from
    (map (value c.args.values.now) c.args.levels.items) c.args.edges c.loop-next.values
    c.loop-next.context.lams (stands_open c.args.net.now c.args.from
    (map (value c.args.values.now) c.args.levels.items) c.args.values.now c.loop-next.values
    c.loop-next.context c.loop-next.at c.loop-next.made c.args.edges c.args.steps.now
    c.loop-next.steps c.loop-next.invariant c.in-Some.next c.in-Some.ensures.linked
    c.in_default-next.not-Free c.if-made-edges.true)
    (all_below c.args.net.now c.args.from
    (map (value c.args.values.now) c.args.levels.items) c.args.values.now c.loop-next.values
    c.loop-next.context c.loop-next.at c.loop-next.made c.args.edges c.args.steps.now
    c.loop-next.steps c.loop-next.invariant))

pub returns-in-Undefined-clause-exit : goal.returns-in-Undefined-clause-exit
returns-in-Undefined-clause-exit g c =
    let e = c.lams.ensures ∙ ap (λ (X : Open). X.lams) (c.in_ok-crossed.ensures.unchanged c.in-Undefined.is) in
    subst (λ n. OpenExitsExactly (net_of c.args.net.now) c.args.from
    (map (value c.args.values.now) c.args.levels.items) c.args.edges c.cross_open.new.values
    (Undefined n (c.loop-next.made + 1))) (sym e)
    (open_undefined_exits (net_of c.args.net.now) c.is_net.ensures.net c.args.from
    (map (value c.args.values.now) c.args.levels.items) c.args.edges c.cross_open.new.values
    c.loop-next.context.lams (c.loop-next.made + 1)
    (all_stop c.args.net.now c.args.from
    (map (value c.args.values.now) c.args.levels.items) c.args.values.now c.loop-next.values
    c.loop-next.context c.loop-next.at c.loop-next.made c.args.edges c.args.steps.now
    c.loop-next.steps c.loop-next.invariant c.in-Some.next c.in-Some.ensures.linked
    c.in_default-next.not-Free c.if-made-edges.false c.is_net.ensures.net
    (c.in_ok-crossed.ensures.undefined.0 c.in-Undefined.is)))

pub returns-in-Free-clause-undefined : goal.returns-in-Free-clause-undefined
returns-in-Free-clause-undefined g c =
    subst (λ n. OpenStopsExactly (net_of c.args.net.now) c.args.from
    (map (value c.args.values.now) c.args.levels.items) c.args.edges
    (Exit n c.in-Free.port c.in_ok-context.context c.loop-next.made)) (sym c.lams-lams.ensures)
    (open_exit_stops (net_of c.args.net.now) c.is_net.ensures.net c.args.from
    (map (value c.args.values.now) c.args.levels.items) c.args.edges c.closed.new.values
    c.loop-next.context.lams c.in-Free.port c.in_ok-context.context c.loop-next.made
    (subst (λ (d : Context). Exits (net_of c.args.net.now) (free c.args.from)
    (asked (map (value c.args.values.now) c.args.levels.items) c.loop-next.context.lams)
    c.args.edges c.in-Free.port d c.loop-next.made) (sym c.in_ok-context.ensures.is)
    (exits_open c.args.net.now c.args.from
    (map (value c.args.values.now) c.args.levels.items) c.args.values.now c.loop-next.values
    c.loop-next.context c.loop-next.at c.loop-next.made c.args.edges c.args.steps.now
    c.loop-next.steps c.loop-next.invariant c.in-Some.next c.in-Some.ensures.linked
    c.in-Free.port c.in-Free.is)) (all_below c.args.net.now c.args.from
    (map (value c.args.values.now) c.args.levels.items) c.args.values.now c.loop-next.values
    c.loop-next.context c.loop-next.at c.loop-next.made c.args.edges c.args.steps.now
    c.loop-next.steps c.loop-next.invariant))

pub returns-then-made-edges-clause-undefined : goal.returns-then-made-edges-clause-undefined
returns-then-made-edges-clause-undefined g c =
    subst (λ n. OpenStopsExactly (net_of c.args.net.now) c.args.from
    (map (value c.args.values.now) c.args.levels.items) c.args.edges (Budget n))
    (sym c.lams-lams-then-made-edges.ensures)
    (open_budget_stops (net_of c.args.net.now) c.is_net.ensures.net c.args.from
    (map (value c.args.values.now) c.args.levels.items) c.args.edges c.loop-next.values
    c.loop-next.context.lams (stands_open c.args.net.now c.args.from
    (map (value c.args.values.now) c.args.levels.items) c.args.values.now c.loop-next.values
    c.loop-next.context c.loop-next.at c.loop-next.made c.args.edges c.args.steps.now
    c.loop-next.steps c.loop-next.invariant c.in-Some.next c.in-Some.ensures.linked
    c.in_default-next.not-Free c.if-made-edges.true)
    (all_below c.args.net.now c.args.from
    (map (value c.args.values.now) c.args.levels.items) c.args.values.now c.loop-next.values
    c.loop-next.context c.loop-next.at c.loop-next.made c.args.edges c.args.steps.now
    c.loop-next.steps c.loop-next.invariant))

pub returns-in-Undefined-clause-undefined : goal.returns-in-Undefined-clause-undefined
returns-in-Undefined-clause-undefined g c =
    let e = c.lams.ensures ∙ ap (λ (X : Open). X.lams) (c.in_ok-crossed.ensures.unchanged c.in-Undefined.is) in
    subst (λ n. OpenStopsExactly (net_of c.args.net.now) c.args.from
    (map (value c.args.values.now) c.args.levels.items) c.args.edges (Undefined n (c.loop-next.made + 1))) (sym e)
    (open_undefined_stops (net_of c.args.net.now) c.is_net.ensures.net c.args.from
    (map (value c.args.values.now) c.args.levels.items) c.args.edges c.cross_open.new.values
    c.loop-next.context.lams (c.loop-next.made + 1)
    (all_stop c.args.net.now c.args.from
    (map (value c.args.values.now) c.args.levels.items) c.args.values.now c.loop-next.values
    c.loop-next.context c.loop-next.at c.loop-next.made c.args.edges c.args.steps.now
    c.loop-next.steps c.loop-next.invariant c.in-Some.next c.in-Some.ensures.linked
    c.in_default-next.not-Free c.if-made-edges.false c.is_net.ensures.net
    (c.in_ok-crossed.ensures.undefined.0 c.in-Undefined.is)))

pub returns-in-Free-clause-budget : goal.returns-in-Free-clause-budget
returns-in-Free-clause-budget g c =
    subst (λ n. OpenStandsExactly (net_of c.args.net.now) c.args.from
    (map (value c.args.values.now) c.args.levels.items) c.args.edges
    (Exit n c.in-Free.port c.in_ok-context.context c.loop-next.made)) (sym c.lams-lams.ensures)
    (open_exit_stands (net_of c.args.net.now) c.is_net.ensures.net c.args.from
    (map (value c.args.values.now) c.args.levels.items) c.args.edges c.closed.new.values
    c.loop-next.context.lams c.in-Free.port c.in_ok-context.context c.loop-next.made
    (subst (λ (d : Context). Exits (net_of c.args.net.now) (free c.args.from)
    (asked (map (value c.args.values.now) c.args.levels.items) c.loop-next.context.lams)
    c.args.edges c.in-Free.port d c.loop-next.made) (sym c.in_ok-context.ensures.is)
    (exits_open c.args.net.now c.args.from
    (map (value c.args.values.now) c.args.levels.items) c.args.values.now c.loop-next.values
    c.loop-next.context c.loop-next.at c.loop-next.made c.args.edges c.args.steps.now
    c.loop-next.steps c.loop-next.invariant c.in-Some.next c.in-Some.ensures.linked
    c.in-Free.port c.in-Free.is)) (all_below c.args.net.now c.args.from
    (map (value c.args.values.now) c.args.levels.items) c.args.values.now c.loop-next.values
    c.loop-next.context c.loop-next.at c.loop-next.made c.args.edges c.args.steps.now
    c.loop-next.steps c.loop-next.invariant))

pub returns-then-made-edges-clause-budget : goal.returns-then-made-edges-clause-budget
returns-then-made-edges-clause-budget g c =
    subst (λ n. OpenStandsExactly (net_of c.args.net.now) c.args.from
    (map (value c.args.values.now) c.args.levels.items) c.args.edges (Budget n))
    (sym c.lams-lams-then-made-edges.ensures)
    (open_budget_stands (net_of c.args.net.now) c.is_net.ensures.net c.args.from
    (map (value c.args.values.now) c.args.levels.items) c.args.edges c.loop-next.values
    c.loop-next.context.lams (stands_open c.args.net.now c.args.from
    (map (value c.args.values.now) c.args.levels.items) c.args.values.now c.loop-next.values
    c.loop-next.context c.loop-next.at c.loop-next.made c.args.edges c.args.steps.now
    c.loop-next.steps c.loop-next.invariant c.in-Some.next c.in-Some.ensures.linked
    c.in_default-next.not-Free c.if-made-edges.true)
    (all_below c.args.net.now c.args.from
    (map (value c.args.values.now) c.args.levels.items) c.args.values.now c.loop-next.values
    c.loop-next.context c.loop-next.at c.loop-next.made c.args.edges c.args.steps.now
    c.loop-next.steps c.loop-next.invariant))

pub returns-in-Undefined-clause-budget : goal.returns-in-Undefined-clause-budget
returns-in-Undefined-clause-budget g c =
    let e = c.lams.ensures ∙ ap (λ (X : Open). X.lams) (c.in_ok-crossed.ensures.unchanged c.in-Undefined.is) in
    subst (λ n. OpenStandsExactly (net_of c.args.net.now) c.args.from
    (map (value c.args.values.now) c.args.levels.items) c.args.edges (Undefined n (c.loop-next.made + 1))) (sym e)
    (open_undefined_stands (net_of c.args.net.now) c.is_net.ensures.net c.args.from
    (map (value c.args.values.now) c.args.levels.items) c.args.edges c.cross_open.new.values
    c.loop-next.context.lams (c.loop-next.made + 1)
    (all_stop c.args.net.now c.args.from
    (map (value c.args.values.now) c.args.levels.items) c.args.values.now c.loop-next.values
    c.loop-next.context c.loop-next.at c.loop-next.made c.args.edges c.args.steps.now
    c.loop-next.steps c.loop-next.invariant c.in-Some.next c.in-Some.ensures.linked
    c.in_default-next.not-Free c.if-made-edges.false c.is_net.ensures.net
    (c.in_ok-crossed.ensures.undefined.0 c.in-Undefined.is)))
