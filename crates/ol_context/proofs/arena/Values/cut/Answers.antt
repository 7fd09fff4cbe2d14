use Rattle.std.proofs.Common.{◌-◌, length, sym, ap, ◌∙◌, subst, arith}
use Rattle.ol_context.specs.HeldLevels.{trees}
use Rattle.ol_context.specs.Rows.{IsRow, AreOnce}
use Rattle.ol_context.proofs.Once.{trees_take, row_take, once_take, fewer_take}
use Rattle.ol_context.proofs.arena.Values.cut.Goals as goal

pub invariant_of-self : goal.invariant_of-self
invariant_of-self c =
    let ss = c.self.inside.shapes.keys in
    let n = c.args.count - 1 in
    let f = fewer_take ss n in
    let e = c.truncate.ensures.keys in
    let l = ap length e in (
      subst (IsRow 1) (sym e) (row_take 1 ss n c.self.invariant.0),
      subst AreOnce (sym e) (once_take ss n c.self.invariant.1),
      omega (arith, c.self.invariant.2),
    )

pub returns : goal.returns
returns c =
    let ss = c.self.inside.shapes.keys in
    let b = c.requires in
    rw (← c.self.view_is) (ap trees c.truncate.ensures.keys
    ∙ trees_take ss (c.args.count - 1) c.args.count (omega arith))
