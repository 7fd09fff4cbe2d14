use Rattle.std.proofs.Common.{ℕ, Option, List, sym, ap, ◌∙◌, subst, option_map}
use Rattle.ol_context.specs.Shapes.{AreHeld}
use Rattle.ol_context.specs.Open.{Open, IsHeldOpen, AreHeldParts}
use Rattle.ol_context.specs.Leaves.{seen, IsKept, LeafHasMoved, IfNoMove}
use Rattle.ol_context.specs.Passing.{HasPassed}
use Rattle.ol_context.specs.declared.leaf.Leaf.{Leaf}
use Rattle.ol_context.specs.declared.leaf.Around.{Around}
use Rattle.ol_context.specs.declared.leaf.Fate.{Fate}
use Rattle.ol_context.proofs.Shapes.{held_more}
use Rattle.ol_context.proofs.Leaves.{parts_more}
use Rattle.ol_context.proofs.Passing.{open_with, passed_closed, passed_none}
use Rattle.ol_context.proofs.open.OpenContext.pass.Goals as goal

pub returns-in_default-clause-passed : goal.returns-in_default-clause-passed
returns-in_default-clause-passed c =
    let e = ap (λ (l : Option Leaf). open_with c.self.inside.levels.items
    (option_map seen l) c.self.inside.lams) (sym c.in_default.is) ∙ c.self.view_is in
    subst (λ (l : Option Leaf). HasPassed c.args.kind c.args.index c.args.slot c.args.values.now
    c.cross_node.new.values c.args.self.now
    (open_with c.cross_node.new.levels.items (option_map seen l) c.self.inside.lams) c.in_ok-crossed.crossed)
    (sym c.in_default.is)
    (passed_closed c.args.kind c.args.index c.args.slot c.args.values.now c.cross_node.new.values
    c.args.self.now c.self.inside.levels.items c.cross_node.new.levels.items c.self.inside.lams
    e c.in_ok-crossed.crossed c.in_ok-crossed.ensures.crossed)

pub returns-in_err-crossed-2-clause-held : goal.returns-in_err-crossed-2-clause-held
returns-in_err-crossed-2-clause-held c =
    let V = c.args.values.now in
    let W = c.cross_leaf.new.values in
    let ns = c.self.inside.levels.items in
    let ps = c.in-Some.leaf.around.items in
    let e = ap (λ (l : Option Leaf). open_with c.self.inside.levels.items
    (option_map seen l) c.self.inside.lams) (sym c.in-Some.is) ∙ c.self.view_is in
    let h = subst (λ (X : Open). IsHeldOpen V X) (sym e) c.requires.held in
    let k = c.in_err-crossed-2.ensures.err in
    let x = c.cross_leaf.ensures.extends in (
      subst (AreHeld W) (sym k.0) (held_more V W ns x h.0),
      subst (λ (l : ℕ × List Around). AreHeldParts W l.1) (sym k.1) (parts_more V W ps x h.1),
    )

pub returns-in-None-clause-passed : goal.returns-in-None-clause-passed
returns-in-None-clause-passed c =
    let V = c.args.values.now in
    let W = c.cross_leaf.new.values in
    let ns = c.self.inside.levels.items in
    let ms = c.cross_leaf.new.levels.items in
    let l = c.in-Some.leaf in
    let m = c.cross_leaf.new.leaf in
    let e = ap (λ (l : Option Leaf). open_with c.self.inside.levels.items
    (option_map seen l) c.self.inside.lams) (sym c.in-Some.is) ∙ c.self.view_is in
    let h = subst (λ (r : Option (ℕ × Fate)).
    LeafHasMoved c.args.kind c.args.index c.args.slot V W ns ms l m r) c.in-None.is
    c.in_ok-crossed-2.ensures.moved in
    let k = subst (λ (r : Option (ℕ × Fate)).
    IfNoMove r (IsKept ns ms l m)) c.in-None.is c.in_ok-crossed-2.ensures.kept in
    let t = passed_none c.args.kind c.args.index c.args.slot V W c.args.self.now ns ms c.self.inside.lams l m e h k in
    (t.0, t.1)
