use Rattle.std.proofs.Common.{◌≡◌, ◌+◌, ◌-◌, suc, arith}
use Rattle.ol_net.specs.declared.parts.Kind.TheVariants as kind
use Rattle.ol_context.proofs.Shapes.{extends_refl}
use Rattle.ol_context.proofs.Leaves.{risen_before}
use Rattle.ol_context.proofs.leaf_changes.put_before.Goals as goal

pub returns-clause-ok : goal.returns-clause-ok
returns-clause-ok c =
    let q : c.args.leaf.now.at ≡ c.args.i + (c.args.leaf.now.at - c.args.i) = omega (arith, c.requires.before) in
    let r : c.args.leaf.now.at + 1 ≡ c.args.i + suc (c.args.leaf.now.at - c.args.i) = omega
    (arith, c.requires.before) in
    risen_before kind.Croissant tt 0 c.args.i (c.args.leaf.now.at - c.args.i) c.args.leaf.now.at
    (c.args.leaf.now.at + 1) q r c.args.leaf.now.around.items
    c.args.values.now c.args.values.now c.args.levels.now.items c.croissant_up.new.levels.items
    (extends_refl c.args.values.now) c.requires.held.1 c.in_ok-croissant_up.ensures.ok.is
