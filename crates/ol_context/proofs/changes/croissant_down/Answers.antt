use Rattle.std.proofs.Common.{◌≡◌, arith, refl, sym, ◌∙◌}
use Rattle.ol_context.specs.Contexts.{empty, o, star, pair}
use Rattle.ol_context.specs.Shapes.{value}
use Rattle.ol_context.proofs.ValueLists.{held_in}
use Rattle.ol_context.proofs.Marks.{put_falls, put_falls_past, none_put}
use Rattle.ol_context.proofs.changes.croissant_down.Goals as goal

pub returns-then-i-len : goal.returns-then-i-len
returns-then-i-len c = (
  refl,
  put_falls_past c.args.values.now c.args.levels.now.items c.args.i
      c.requires (omega (arith, c.args.levels.now.ok.0, c.len.ensures)),
)

pub shape-requires : goal.shape-requires
shape-requires c = rw c.index-at.ensures
    (held_in c.args.values.now c.args.levels.now.items c.args.i c.index-at.result.now c.requires
    (omega (arith, c.args.levels.now.ok.0, c.len.ensures)))

pub returns-in-Empty : goal.returns-in-Empty
returns-in-Empty c = (
  refl,
  rw c.remove-old.ensures.items (put_falls c.args.values.now c.args.levels.now.items c.args.i
      c.index-at.result.now c.requires (omega (arith, c.args.levels.now.ok.0, c.len.ensures)) c.index-at.ensures
      c.in-Empty.ensures.is),
)

pub returns-in-O : goal.returns-in-O
returns-in-O c = (
  refl,
  none_put c.args.values.now c.args.levels.now.items c.args.i c.index-at.result.now
      (omega (arith, c.args.levels.now.ok.0, c.len.ensures)) c.index-at.ensures
      (λ e. let h = c.in-O.ensures in let q : o (value c.args.values.now c.in-O.field-0) ≡ empty = sym h.is ∙ e in cc),
)

pub returns-in-Star : goal.returns-in-Star
returns-in-Star c = (
  refl,
  none_put c.args.values.now c.args.levels.now.items c.args.i c.index-at.result.now
      (omega (arith, c.args.levels.now.ok.0, c.len.ensures)) c.index-at.ensures
      (λ e. let h = c.in-Star.ensures in let q : star
      (value c.args.values.now c.in-Star.field-0) ≡ empty = sym h.is ∙ e in cc),
)

pub returns-in-Pair : goal.returns-in-Pair
returns-in-Pair c = (
  refl,
  none_put c.args.values.now c.args.levels.now.items c.args.i c.index-at.result.now
      (omega (arith, c.args.levels.now.ok.0, c.len.ensures)) c.index-at.ensures
      (λ e. let h = c.in-Pair.ensures in let q : pair (value c.args.values.now c.in-Pair.field-0)
      (value c.args.values.now c.in-Pair.field-1) ≡ empty = sym h.is ∙ e in cc),
)
