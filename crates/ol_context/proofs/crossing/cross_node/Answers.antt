use Rattle.std.proofs.Common.{ℕ, Option, subst}
use Rattle.ol_context.specs.Crossings.{HasFallen}
use Rattle.ol_context.proofs.Shapes.{held_more}
use Rattle.ol_context.proofs.Crossings.{crossed_some, crossed_up}
use Rattle.ol_context.proofs.crossing.cross_node.Goals as goal

pub returns-in-Some-clause-crossed : goal.returns-in-Some-clause-crossed
returns-in-Some-clause-crossed c = crossed_some c.args.values.now c.args.kind c.args.index
    c.args.slot c.in-Some.s c.args.levels.now.items c.fall.new.levels.items c.if-slot-eq0.true
    (subst (λ (r : Option ℕ). HasFallen c.args.kind c.args.index c.args.values.now
    c.args.levels.now.items c.fall.new.levels.items r) c.in-Some.is c.in_ok-fallen.ensures.ok)

pub returns-in_err-rise-clause-held : goal.returns-in_err-rise-clause-held
returns-in_err-rise-clause-held c = rw c.in_err-rise.ensures.err
    (held_more c.args.values.now c.rise.new.values c.args.levels.now.items c.rise.ensures.extends c.requires.held)

pub returns-clause-crossed : goal.returns-clause-crossed
returns-clause-crossed c = crossed_up c.args.values.now c.rise.new.values c.args.kind c.args.index
    c.args.slot c.args.levels.now.items c.rise.new.levels.items c.if-slot-eq0.false c.requires.slot
    c.in_ok-rise.ensures.ok
