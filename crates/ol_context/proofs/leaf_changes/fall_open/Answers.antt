use Rattle.std.proofs.Common.{◌≡◌, ◌-◌, ℕ, Option, subst, arith}
use Rattle.ol_context.specs.Crossings.{HasFallen}
use Rattle.ol_context.specs.Leaves.{LeafHasMoved}
use Rattle.ol_context.proofs.LeafMoves.{no_move_beyond, moves_beyond_by}
use Rattle.ol_context.proofs.leaf_changes.fall_open.Goals as goal

pub returns-in_default-clause-moved : goal.returns-in_default-clause-moved
returns-in_default-clause-moved c =
    no_move_beyond c.args.kind c.args.i c.args.leaf.now.at c.if-i-leaf.true
    c.args.leaf.now.around.items c.args.values.now c.args.levels.now.items c.fall.new.levels.items
    (subst (λ (r : Option ℕ). HasFallen c.args.kind
    (c.args.i - 1) c.args.values.now c.args.levels.now.items c.fall.new.levels.items r)
    c.in_default.is c.in_ok-fallen.ensures.ok)

pub returns-then-i-leaf-clause-moved : goal.returns-then-i-leaf-clause-moved
returns-then-i-leaf-clause-moved c =
    let h = subst (λ (r : Option ℕ). HasFallen c.args.kind
    (c.args.i - 1) c.args.values.now c.args.levels.now.items c.fall.new.levels.items r)
    c.in-Some.is c.in_ok-fallen.ensures.ok in
    moves_beyond_by c.args.kind c.args.i c.in-Some.s c.args.leaf.now.at c.if-i-leaf.true
    c.args.leaf.now.around.items c.args.values.now c.args.levels.now.items c.fall.new.levels.items h

pub returns-clause-moved : goal.returns-clause-moved
returns-clause-moved c =
    let e : c.args.leaf.now.at ≡ c.args.i = omega (arith, c.if-i-leaf.false, c.if-i-leaf-2.false) in
    subst (λ i. LeafHasMoved c.args.kind i 0 c.args.values.now c.args.values.now
    c.args.levels.now.items c.fall_there.new.levels.items c.args.leaf.now c.fall_there.new.leaf
    c.in_ok-fallen-3.fallen) e c.in_ok-fallen-3.ensures.moved
