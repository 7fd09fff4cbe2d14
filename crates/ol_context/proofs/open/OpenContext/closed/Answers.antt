use Rattle.std.proofs.Common.{◌<◌, Option, length, sym, ap, ◌∙◌, subst, option_map, arith}
use Rattle.ol_context.specs.Shapes.{AreHeld, context_of}
use Rattle.ol_context.specs.Open.{Open, IsHeldOpen}
use Rattle.ol_context.specs.Leaves.{seen}
use Rattle.ol_context.specs.declared.leaf.Leaf.{Leaf}
use Rattle.ol_context.proofs.Shapes.{held_more}
use Rattle.ol_context.proofs.Passing.{open_with, closed_is}
use Rattle.ol_context.proofs.open.OpenContext.closed.Goals as goal

pub returns-clause-held : goal.returns-clause-held
returns-clause-held c =
    let V = c.args.values.now in
    let W = c.fill.new.values in
    let e = ap (λ (l : Option Leaf). open_with c.self.inside.levels.items
    (option_map seen l) c.self.inside.lams) (sym c.in-Some.is) ∙ c.self.view_is in
    let h = subst (λ (X : Open). IsHeldOpen V X) (sym e) c.requires in
    let x = c.fill.ensures.extends in
    let n : c.empty-none.result < length W = omega (arith, x.longer, c.empty-none.ensures.held) in
    subst (AreHeld W) (sym c.of-2.ensures)
    (c.in_ok-put_in.ensures.held W c.in_ok-whole.ensures.new.held n
    (held_more V W c.self.inside.levels.items x h.0))

pub returns-clause-is : goal.returns-clause-is
returns-clause-is c =
    let V = c.args.values.now in
    let W = c.fill.new.values in
    let e = ap (λ (l : Option Leaf). open_with c.self.inside.levels.items
    (option_map seen l) c.self.inside.lams) (sym c.in-Some.is) ∙ c.self.view_is in
    let h = subst (λ (X : Open). IsHeldOpen V X) (sym e) c.requires in
    let x = c.fill.ensures.extends in
    let z = c.empty-none.ensures in
    ap (context_of W) c.of-2.ensures
    ∙ closed_is V W c.args.self c.self.inside.levels.items c.put_in.new.levels.items
    c.self.inside.lams c.in-Some.leaf e c.in_ok-whole.whole c.empty-none.result x h.0
    (c.in_ok-put_in.ensures.ok W (x.same c.empty-none.result z.held ∙ z.is)) c.in_ok-whole.ensures.new.is z.is
