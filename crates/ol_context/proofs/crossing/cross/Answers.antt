use Rattle.std.proofs.Common.{ℕ, Option, refl, sym, ◌∙◌, subst}
use Rattle.ol_net.specs.Numbered.{numbered_port, net_of}
use Rattle.ol_net.specs.Nets.{slot}
use Rattle.ol_context.specs.Shapes.{context_of}
use Rattle.ol_context.specs.Crossings.{IsCrossed}
use Rattle.ol_context.proofs.Crossings.{node_port, has_kind, slot_within, goes_through, is_barred, not_barred}
use Rattle.ol_context.proofs.crossing.cross.Goals as goal

pub unreachable-requires-in_default-kind_of : goal.unreachable-requires-in_default-kind_of
unreachable-requires-in_default-kind_of c =
    has_kind c.args.net.now c.in-Of.node.0 c.in-Of.slot
    (node_port c.args.net.now c.args.at c.in-Of.node c.in-Of.slot c.in-Of.is c.requires.port)
    (sym c.kind_of.ensures.table ∙ c.in_default-kind_of.is)

pub cross_node-requires-clause-slot : goal.cross_node-requires-clause-slot
cross_node-requires-clause-slot c = slot_within c.args.net.now c.args.at c.in-Of.node c.in-Of.slot
    c.in-Of.is c.in-Some.kind c.in-Some.index (sym c.in-Some.ensures.table) c.requires.port

pub returns-in_default-crossed-clause-undefined : goal.returns-in_default-crossed-clause-undefined
returns-in_default-crossed-clause-undefined c =
    let y = subst (λ (r : Option ℕ). IsCrossed c.in-Some.kind c.in-Some.index c.in-Of.slot
    c.args.values.now c.cross_node.new.values c.context.inside.levels.items
    c.cross_node.new.levels.items r) c.in_default-crossed.is c.in_ok-crossed.ensures.crossed in
    rw (← c.context.view_is) (
      λ e. is_barred c.args.net.now c.args.at c.in-Of.node c.in-Of.slot c.in-Of.is c.in-Some.kind
          c.in-Some.index (sym c.in-Some.ensures.table)
          (context_of c.args.values.now c.context.inside.levels.items) y.0,
      λ b. refl,
    )

pub returns-clause-out : goal.returns-clause-out
returns-clause-out c =
    let y = subst (λ (r : Option ℕ). IsCrossed c.in-Some.kind c.in-Some.index c.in-Of.slot
    c.args.values.now c.cross_node.new.values c.context.inside.levels.items
    c.cross_node.new.levels.items r) c.in-Some-crossed.is c.in_ok-crossed.ensures.crossed in
    rw (← c.context.view_is)
    (goes_through c.args.net.now c.args.at c.in-Of.node c.in-Of.slot c.in-Of.is c.in-Some.kind
    c.in-Some.index (sym c.in-Some.ensures.table) c.in-Some-crossed.slot
    (context_of c.args.values.now c.context.inside.levels.items)
    (context_of c.cross_node.new.values c.cross_node.new.levels.items) y)

pub returns-clause-undefined : goal.returns-clause-undefined
returns-clause-undefined c =
    let y = subst (λ (r : Option ℕ). IsCrossed c.in-Some.kind c.in-Some.index c.in-Of.slot
    c.args.values.now c.cross_node.new.values c.context.inside.levels.items
    c.cross_node.new.levels.items r) c.in-Some-crossed.is c.in_ok-crossed.ensures.crossed in
    rw (← c.context.view_is)
    (not_barred (net_of c.args.net.now) (numbered_port c.args.at)
    (slot c.in-Of.node.0 c.in-Some-crossed.slot)
    (context_of c.args.values.now c.context.inside.levels.items)
    (context_of c.cross_node.new.values c.cross_node.new.levels.items) _
    (goes_through c.args.net.now c.args.at c.in-Of.node c.in-Of.slot c.in-Of.is c.in-Some.kind
    c.in-Some.index (sym c.in-Some.ensures.table) c.in-Some-crossed.slot
    (context_of c.args.values.now c.context.inside.levels.items)
    (context_of c.cross_node.new.values c.cross_node.new.levels.items) y)
    (λ e. absurd (cc)))
