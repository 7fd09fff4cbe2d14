use Rattle.std.proofs.Common.{◌-◌, refl, arith}
use Rattle.ol_context.specs.Shapes.{value}
use Rattle.ol_context.specs.declared.leaf.Around.TheVariants.{O, Star, First, Second}
use Rattle.ol_context.proofs.Leaves.{parts_pop}
use Rattle.ol_context.proofs.LeafMoves.{popped, last_is, grows, unmarked, not_unmarked, marked_pair}
use Rattle.ol_context.proofs.leaf_changes.unmark.Goals as goal

pub returns-then-count-eq0-clause-moved : goal.returns-then-count-eq0-clause-moved
returns-then-count-eq0-clause-moved c = λ vs ns.
    grows vs ns c.args.leaf.now.at c.args.leaf.now.around.items
    (omega (arith, c.args.leaf.now.around.ok.0, c.len-count.ensures, c.if-count-eq0.true))

pub returns-in-O-clause-held : goal.returns-in-O-clause-held
returns-in-O-clause-held c = λ vs h.
    (parts_pop vs c.pop-part.new.self.items c.args.leaf.now.around.items O
    (popped c.args.leaf.now.around.items c.pop-part.new.self.items c.pop-part.result _ _
    c.index.result.now O c.pop-part.ensures.items
    (c.pop-part.ensures.value c.index.result.now
    (omega (arith, c.len-count.ensures, c.if-count-eq0.false)))
    (omega (arith, c.len-count.ensures)) c.index.ensures c.in-O.is) h).0

pub returns-in-O-clause-moved : goal.returns-in-O-clause-moved
returns-in-O-clause-moved c = λ vs ns.
    unmarked vs ns c.args.leaf.now.at c.args.leaf.now.around.items c.pop-part.new.self.items O 0
    (omega arith) (popped c.args.leaf.now.around.items c.pop-part.new.self.items c.pop-part.result _
    _ c.index.result.now O c.pop-part.ensures.items
    (c.pop-part.ensures.value c.index.result.now
    (omega (arith, c.len-count.ensures, c.if-count-eq0.false)))
    (omega (arith, c.len-count.ensures)) c.index.ensures c.in-O.is) (λ w. refl)

pub returns-in-Star-clause-held : goal.returns-in-Star-clause-held
returns-in-Star-clause-held c = λ vs h.
    (parts_pop vs c.pop-part-in-Star.new.self.items c.args.leaf.now.around.items Star
    (popped c.args.leaf.now.around.items c.pop-part-in-Star.new.self.items c.pop-part-in-Star.result
    _ _ c.index.result.now Star c.pop-part-in-Star.ensures.items
    (c.pop-part-in-Star.ensures.value c.index.result.now
    (omega (arith, c.len-count.ensures, c.if-count-eq0.false)))
    (omega (arith, c.len-count.ensures)) c.index.ensures c.in-Star.is) h).0

pub returns-in-Star-clause-moved : goal.returns-in-Star-clause-moved
returns-in-Star-clause-moved c = λ vs ns.
    unmarked vs ns c.args.leaf.now.at c.args.leaf.now.around.items c.pop-part-in-Star.new.self.items
    Star 1 (omega arith) (popped c.args.leaf.now.around.items c.pop-part-in-Star.new.self.items
    c.pop-part-in-Star.result _ _ c.index.result.now Star c.pop-part-in-Star.ensures.items
    (c.pop-part-in-Star.ensures.value c.index.result.now
    (omega (arith, c.len-count.ensures, c.if-count-eq0.false)))
    (omega (arith, c.len-count.ensures)) c.index.ensures c.in-Star.is) (λ w. refl)

pub returns-in-First-clause-moved : goal.returns-in-First-clause-moved
returns-in-First-clause-moved c =
    let t = last_is c.args.leaf.now.around.items (c.len-count.result - 1) c.index.result.now
    (First c.in-First.field-0) (omega (
      arith,
      c.args.leaf.now.around.ok.0,
      c.len-count.ensures,
      c.if-count-eq0.false,
    )) c.index.ensures c.in-First.is in
    λ vs ns. not_unmarked vs ns c.args.leaf.now.at c.args.leaf.now.around.items t.0
    (First c.in-First.field-0) t.1 (λ w s v e. marked_pair s v w (value vs c.in-First.field-0) e)

pub returns-in-Second-clause-moved : goal.returns-in-Second-clause-moved
returns-in-Second-clause-moved c =
    let t = last_is c.args.leaf.now.around.items (c.len-count.result - 1) c.index.result.now
    (Second c.in-Second.field-0) (omega (
      arith,
      c.args.leaf.now.around.ok.0,
      c.len-count.ensures,
      c.if-count-eq0.false,
    )) c.index.ensures c.in-Second.is in
    λ vs ns. not_unmarked vs ns c.args.leaf.now.at c.args.leaf.now.around.items t.0
    (Second c.in-Second.field-0) t.1 (λ w s v e. marked_pair s v (value vs c.in-Second.field-0) w e)
