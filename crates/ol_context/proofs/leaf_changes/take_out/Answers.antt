use Rattle.std.proofs.Common.{sym, ap, ◌∙◌, refl, subst, arith}
use Rattle.ol_context.specs.Contexts.{tail}
use Rattle.ol_context.specs.Shapes.{AreHeld, context_of}
use Rattle.ol_context.proofs.ValueLists.{held_remove, remove_is, past_is}
use Rattle.ol_context.proofs.leaf_changes.take_out.Goals as goal

pub returns-then-i-len-clause-held : goal.returns-then-i-len-clause-held
returns-then-i-len-clause-held c = λ vs h.
    subst (AreHeld vs) (sym c.remove-level.ensures.items) (held_remove vs c.args.levels.now.items c.args.i h)

pub returns-then-i-len-clause-is : goal.returns-then-i-len-clause-is
returns-then-i-len-clause-is c = λ vs. ap (context_of vs) c.remove-level.ensures.items
    ∙ remove_is vs c.args.levels.now.items c.args.i
    (omega (arith, c.args.levels.now.ok.0, c.len.ensures, c.if-i-len.true))

pub returns-else-i-len-clause-is : goal.returns-else-i-len-clause-is
returns-else-i-len-clause-is c = λ vs.
    sym (past_is vs c.args.levels.now.items c.args.i tail
    (omega (arith, c.args.levels.now.ok.0, c.len.ensures, c.if-i-len.false)) refl)
