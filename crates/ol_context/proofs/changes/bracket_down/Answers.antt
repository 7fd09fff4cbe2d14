use Rattle.std.proofs.Common.{◌≡◌, arith, refl, sym, ◌∙◌}
use Rattle.ol_context.specs.Contexts.{empty, o, star, pair}
use Rattle.ol_context.specs.Shapes.{value}
use Rattle.ol_context.proofs.ValueLists.{held_in}
use Rattle.ol_context.proofs.Marks.{pack_falls, none_packed, none_packed_past}
use Rattle.ol_context.proofs.changes.bracket_down.Goals as goal

pub returns-then-i-len-clause-ok : goal.returns-then-i-len-clause-ok
returns-then-i-len-clause-ok c = (
  refl,
  none_packed_past c.args.values.now c.args.levels.now.items c.args.i
      (omega (arith, c.args.levels.now.ok.0, c.len.ensures)),
)

pub shape-requires : goal.shape-requires
shape-requires c = rw c.index-at.ensures
    (held_in c.args.values.now c.args.levels.now.items c.args.i c.index-at.result.now
    c.requires.held (omega (arith, c.args.levels.now.ok.0, c.len.ensures)))

pub returns-in_ok-insert-in-Pair-clause-ok : goal.returns-in_ok-insert-in-Pair-clause-ok
returns-in_ok-insert-in-Pair-clause-ok c = (
  refl,
  rw c.in_ok-insert-in-Pair.ensures.ok
      (let h = c.in-Pair.ensures in let b = h.held in
      pack_falls c.args.values.now c.args.levels.now.items c.args.i c.index-at.result.now
      c.in-Pair.x c.in-Pair.y c.requires.held
      (omega (arith, c.args.levels.now.ok.0, c.len.ensures)) c.index-at.ensures
      b.0 b.1 h.is),
)

pub returns-in-Empty-clause-ok : goal.returns-in-Empty-clause-ok
returns-in-Empty-clause-ok c = (
  refl,
  none_packed c.args.values.now c.args.levels.now.items c.args.i c.index-at.result.now
      (omega (arith, c.args.levels.now.ok.0, c.len.ensures)) c.index-at.ensures
      (λ x y e. let h = c.in-Empty.ensures in let q : empty ≡ pair x y = sym h.is ∙ e in cc),
)

pub returns-in-O-clause-ok : goal.returns-in-O-clause-ok
returns-in-O-clause-ok c = (
  refl,
  none_packed c.args.values.now c.args.levels.now.items c.args.i c.index-at.result.now
      (omega (arith, c.args.levels.now.ok.0, c.len.ensures)) c.index-at.ensures
      (λ x y e. let h = c.in-O.ensures in let q : o
      (value c.args.values.now c.in-O.field-0) ≡ pair x y = sym h.is ∙ e in cc),
)

pub returns-in-Star-clause-ok : goal.returns-in-Star-clause-ok
returns-in-Star-clause-ok c = (
  refl,
  none_packed c.args.values.now c.args.levels.now.items c.args.i c.index-at.result.now
      (omega (arith, c.args.levels.now.ok.0, c.len.ensures)) c.index-at.ensures
      (λ x y e. let h = c.in-Star.ensures in
      let q : star (value c.args.values.now c.in-Star.field-0) ≡ pair x y = sym h.is ∙ e in cc),
)
