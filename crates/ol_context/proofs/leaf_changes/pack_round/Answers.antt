use Rattle.std.proofs.Common.{◌≡◌, ◌+◌, ◌-◌, ◌<◌, suc, length, sym, ap, ◌∙◌, subst, arith}
use Rattle.ol_net.specs.declared.parts.Kind.TheVariants as kind
use Rattle.ol_context.specs.Shapes.{value}
use Rattle.ol_context.specs.declared.leaf.Around.TheVariants.{First, Second}
use Rattle.ol_context.proofs.ValueLists.{held_at, level_is}
use Rattle.ol_context.proofs.Leaves.{parts_more, parts_push, risen_before}
use Rattle.ol_context.proofs.LeafMoves.{packs_first, packs_second}
use Rattle.ol_context.proofs.leaf_changes.pack_round.Goals as goal

pub returns-then-i-leaf-clause-held : goal.returns-then-i-leaf-clause-held
returns-then-i-leaf-clause-held c = (
  c.in_ok-bracket_up.ensures.ok.held,
  parts_more c.args.values.now c.bracket_up.new.values c.args.leaf.now.around.items
      c.bracket_up.ensures.extends c.requires.held.1,
)

pub returns-then-i-leaf-clause-ok : goal.returns-then-i-leaf-clause-ok
returns-then-i-leaf-clause-ok c =
    let q : c.args.leaf.now.at ≡ c.args.i + suc (suc (c.args.leaf.now.at - (c.args.i + 2))) = omega
    (arith, c.if-i-leaf.true) in
    let r : c.args.leaf.now.at - 1 ≡ c.args.i + suc (c.args.leaf.now.at - (c.args.i + 2)) = omega
    (arith, c.if-i-leaf.true) in
    risen_before kind.Bracket tt 0 c.args.i (c.args.leaf.now.at - (c.args.i + 2)) c.args.leaf.now.at
    (c.args.leaf.now.at - 1) q r c.args.leaf.now.around.items
    c.args.values.now c.bracket_up.new.values c.args.levels.now.items c.bracket_up.new.levels.items
    c.bracket_up.ensures.extends c.requires.held.1 c.in_ok-bracket_up.ensures.ok.is

pub returns-then-i-leaf-2-clause-held : goal.returns-then-i-leaf-2-clause-held
returns-then-i-leaf-2-clause-held c =
    let h : c.level_or-other.result < length c.args.values.now = subst
    (λ n. n < length c.args.values.now) (sym c.level_or-other.ensures)
    (held_at c.args.values.now c.args.levels.now.items c.args.i c.empty.result c.requires.held.0
    c.empty.ensures.held) in (
      c.take_out.ensures.held c.args.values.now c.requires.held.0,
      parts_push c.args.values.now c.args.leaf.now.around.items c.wrap.new.leaf.around.items
          (First c.level_or-other.result) c.in_ok-wrap.ensures.ok c.requires.held.1 h,
    )

pub returns-then-i-leaf-2-clause-ok : goal.returns-then-i-leaf-2-clause-ok
returns-then-i-leaf-2-clause-ok c =
    packs_first c.args.values.now c.args.levels.now.items c.args.leaf.now.at
    c.args.leaf.now.around.items c.wrap.new.leaf.around.items c.level_or-other.result c.args.i
    c.take_out.new.levels.items
    (omega (arith, c.if-i-leaf.false, c.if-i-leaf-2.true)) c.in_ok-wrap.ensures.ok
    (ap (value c.args.values.now) c.level_or-other.ensures
    ∙ sym (level_is c.args.values.now c.args.levels.now.items c.args.i c.empty.result
    c.empty.ensures.is)) (c.take_out.ensures.is c.args.values.now)

pub returns-clause-held : goal.returns-clause-held
returns-clause-held c =
    let h : c.level_or-other.result < length c.args.values.now = subst
    (λ n. n < length c.args.values.now) (sym c.level_or-other.ensures)
    (held_at c.args.values.now c.args.levels.now.items c.args.i c.empty.result c.requires.held.0
    c.empty.ensures.held) in (
      c.take_out-2.ensures.held c.args.values.now c.requires.held.0,
      parts_push c.args.values.now c.args.leaf.now.around.items c.wrap-2.new.leaf.around.items
          (Second c.level_or-other.result) c.in_ok-wrap-2.ensures.ok c.requires.held.1 h,
    )

pub returns-clause-ok : goal.returns-clause-ok
returns-clause-ok c =
    packs_second c.args.values.now c.args.levels.now.items c.args.leaf.now.at
    c.args.leaf.now.around.items c.wrap-2.new.leaf.around.items c.level_or-other.result c.args.i
    c.wrap-2.new.leaf.at c.take_out-2.new.levels.items
    (omega (arith, c.if-i-leaf-2.false, c.requires.before)) c.wrap-2.ensures.at
    c.in_ok-wrap-2.ensures.ok (ap (value c.args.values.now) c.level_or-other.ensures
    ∙ sym (level_is c.args.values.now c.args.levels.now.items c.args.i c.empty.result
    c.empty.ensures.is)) (c.take_out-2.ensures.is c.args.values.now)
