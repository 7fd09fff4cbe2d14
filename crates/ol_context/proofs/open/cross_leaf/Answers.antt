use Rattle.std.proofs.Common.{sym, subst, Some}
use Rattle.ol_context.specs.Leaves.{LeafHasMoved, seen}
use Rattle.ol_context.specs.Open.{reading}
use Rattle.ol_context.proofs.Passing.{rises}
use Rattle.ol_context.proofs.open.cross_leaf.Goals as goal

pub returns-then-slot-eq0-clause-moved : goal.returns-then-slot-eq0-clause-moved
returns-then-slot-eq0-clause-moved c =
    subst (λ s. LeafHasMoved c.args.kind c.args.index s c.args.values.now c.args.values.now
    c.args.levels.now.items c.fall_open.new.levels.items c.args.leaf.now c.fall_open.new.leaf c.in_ok-fallen.fallen)
    (sym c.if-slot-eq0.true) c.in_ok-fallen.ensures.moved

pub returns-clause-moved : goal.returns-clause-moved
returns-clause-moved c =
    λ v. rises c.args.kind c.args.index c.args.slot
    (reading c.args.values.now c.args.levels.now.items (Some (seen c.args.leaf.now)) v)
    (reading c.rise_open.new.values c.rise_open.new.levels.items
    (Some (seen c.rise_open.new.leaf)) v) c.if-slot-eq0.false c.requires.slot (c.in_ok-rise_open.ensures.ok v)
