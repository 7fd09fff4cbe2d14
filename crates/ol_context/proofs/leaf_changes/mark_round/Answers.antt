use Rattle.std.proofs.Common.{◌≡◌, ◌+◌, ◌-◌, suc, refl, arith}
use Rattle.ol_net.specs.declared.parts.Kind.TheVariants as kind
use Rattle.ol_context.specs.declared.leaf.Around.TheVariants.{O, Star}
use Rattle.ol_context.proofs.Leaves.{parts_more, parts_push, risen_before}
use Rattle.ol_context.proofs.LeafMoves.{marks, marked_suc}
use Rattle.ol_context.proofs.leaf_changes.mark_round.Goals as goal

pub returns-then-i-leaf-clause-held : goal.returns-then-i-leaf-clause-held
returns-then-i-leaf-clause-held c = (
  c.in_ok-mark_up.ensures.ok.held,
  parts_more c.args.values.now c.mark_up.new.values c.args.leaf.now.around.items
      c.mark_up.ensures.extends c.requires.held.1,
)

pub returns-then-i-leaf-clause-ok : goal.returns-then-i-leaf-clause-ok
returns-then-i-leaf-clause-ok c =
    let q : c.args.leaf.now.at ≡ c.args.i + suc (c.args.leaf.now.at - suc c.args.i) = omega (arith, c.if-i-leaf.true) in
    risen_before kind.Fan tt c.args.s c.args.i
    (c.args.leaf.now.at - suc c.args.i) c.args.leaf.now.at c.args.leaf.now.at q q c.args.leaf.now.around.items
    c.args.values.now c.mark_up.new.values c.args.levels.now.items c.mark_up.new.levels.items
    c.mark_up.ensures.extends c.requires.held.1 c.in_ok-mark_up.ensures.ok.is

pub returns-then-s-eq0-clause-held : goal.returns-then-s-eq0-clause-held
returns-then-s-eq0-clause-held c = (
  c.requires.held.0,
  parts_push c.args.values.now c.args.leaf.now.around.items c.wrap.new.leaf.around.items O
      c.in_ok-wrap.ensures.ok c.requires.held.1 tt,
)

pub returns-then-s-eq0-clause-ok : goal.returns-then-s-eq0-clause-ok
returns-then-s-eq0-clause-ok c =
    marks c.args.values.now c.args.levels.now.items c.args.leaf.now.at c.args.leaf.now.around.items
    c.wrap.new.leaf.around.items O c.args.i c.args.s c.wrap.new.leaf.at
    (omega (arith, c.if-i-leaf.false, c.requires.before)) c.wrap.ensures.at c.in_ok-wrap.ensures.ok
    (λ w. rw c.if-s-eq0.true refl)

pub returns-clause-held : goal.returns-clause-held
returns-clause-held c = (
  c.requires.held.0,
  parts_push c.args.values.now c.args.leaf.now.around.items c.wrap-2.new.leaf.around.items Star
      c.in_ok-wrap-2.ensures.ok c.requires.held.1 tt,
)

pub returns-clause-ok : goal.returns-clause-ok
returns-clause-ok c =
    marks c.args.values.now c.args.levels.now.items c.args.leaf.now.at c.args.leaf.now.around.items
    c.wrap-2.new.leaf.around.items Star c.args.i c.args.s c.wrap-2.new.leaf.at
    (omega (arith, c.if-i-leaf.false, c.requires.before)) c.wrap-2.ensures.at
    c.in_ok-wrap-2.ensures.ok (λ w. marked_suc c.args.s w c.if-s-eq0.false)
