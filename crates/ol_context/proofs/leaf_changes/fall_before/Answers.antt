use Rattle.std.proofs.Common.{ℕ, Option, subst}
use Rattle.ol_context.specs.Crossings.{HasFallen}
use Rattle.ol_context.proofs.LeafMoves.{no_move_before, moves_before_by}
use Rattle.ol_context.proofs.leaf_changes.fall_before.Goals as goal

pub returns-in_default-clause-moved : goal.returns-in_default-clause-moved
returns-in_default-clause-moved c =
    no_move_before c.args.kind c.args.i c.args.leaf.now.at c.requires.before
    c.args.leaf.now.around.items c.args.values.now c.args.levels.now.items c.fall.new.levels.items
    (subst (λ (r : Option ℕ). HasFallen c.args.kind c.args.i c.args.values.now
    c.args.levels.now.items c.fall.new.levels.items r) c.in_default.is c.in_ok-fallen.ensures.ok)

pub returns-clause-moved : goal.returns-clause-moved
returns-clause-moved c =
    let h = subst (λ (r : Option ℕ). HasFallen c.args.kind c.args.i c.args.values.now
    c.args.levels.now.items c.fall.new.levels.items r) c.in-Some.is c.in_ok-fallen.ensures.ok in
    moves_before_by c.args.kind c.args.i c.in-Some.s c.args.leaf.now.at c.level_after-leaf.result
    c.requires.before c.level_after-leaf.ensures c.args.leaf.now.around.items c.args.values.now
    c.args.levels.now.items c.fall.new.levels.items h
