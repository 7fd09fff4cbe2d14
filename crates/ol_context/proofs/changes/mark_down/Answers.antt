use Rattle.std.proofs.Common.{arith, refl, sym, ap, ◌∙◌}
use Rattle.ol_context.specs.Shapes.{value}
use Rattle.ol_context.proofs.ValueLists.{held_in, past_level}
use Rattle.ol_context.proofs.Marks.{mark_falls, none_marked, empty_unmarked, pair_unmarked, level_in}
use Rattle.ol_context.proofs.changes.mark_down.Goals as goal

pub returns-then-i-len : goal.returns-then-i-len
returns-then-i-len c = (
  refl,
  none_marked c.args.values.now c.args.levels.now.items c.args.i
      (λ s v e. empty_unmarked s v (sym (past_level c.args.values.now c.args.levels.now.items
      c.args.i (omega (arith, c.args.levels.now.ok.0, c.len.ensures))) ∙ e)),
)

pub shape-requires : goal.shape-requires
shape-requires c = rw c.index-at.ensures
    (held_in c.args.values.now c.args.levels.now.items c.args.i c.index-at.result.now c.requires
    (omega (arith, c.args.levels.now.ok.0, c.len.ensures)))

pub returns-in-O : goal.returns-in-O
returns-in-O c = (
  omega arith,
  mark_falls c.args.values.now c.args.levels.now.items c.args.i 0 c.index-at.result.now c.in-O.v
      c.requires (omega (arith, c.args.levels.now.ok.0, c.len.ensures)) c.index-at.ensures
      c.in-O.ensures.held c.in-O.ensures.is,
)

pub returns-in-Star : goal.returns-in-Star
returns-in-Star c = (
  omega arith,
  mark_falls c.args.values.now c.args.levels.now.items c.args.i 1 c.index-at.result.now c.in-Star.v
      c.requires (omega (arith, c.args.levels.now.ok.0, c.len.ensures)) c.index-at.ensures
      c.in-Star.ensures.held c.in-Star.ensures.is,
)

pub returns-in-Empty : goal.returns-in-Empty
returns-in-Empty c = (
  refl,
  none_marked c.args.values.now c.args.levels.now.items c.args.i
      (λ s v e. empty_unmarked s v (sym c.in-Empty.ensures.is
      ∙ ap (value c.args.values.now) c.index-at.ensures
      ∙ sym (level_in c.args.values.now c.args.levels.now.items c.args.i c.index-at.result.now
      (omega (arith, c.args.levels.now.ok.0, c.len.ensures))) ∙ e)),
)

pub returns-in-Pair : goal.returns-in-Pair
returns-in-Pair c = (
  refl,
  none_marked c.args.values.now c.args.levels.now.items c.args.i
      (λ s v e. pair_unmarked _ _ s v (sym c.in-Pair.ensures.is
      ∙ ap (value c.args.values.now) c.index-at.ensures
      ∙ sym (level_in c.args.values.now c.args.levels.now.items c.args.i c.index-at.result.now
      (omega (arith, c.args.levels.now.ok.0, c.len.ensures))) ∙ e)),
)
