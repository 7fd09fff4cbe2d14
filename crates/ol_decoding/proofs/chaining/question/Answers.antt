use Rattle.std.proofs.Common.{◌∷◌, [], ◌++◌, List, ℕ, sym, ap, ◌∙◌, subst}
use Rattle.ol_context.specs.Shapes.{AreHeld, context_of}
use Rattle.ol_context.proofs.Shapes.{held_more}
use Rattle.ol_context.proofs.ValueLists.{held_append}
use Rattle.ol_decoding.proofs.Ending.{question_is}
use Rattle.ol_decoding.proofs.chaining.question.Goals as goal

pub returns-clause-held : goal.returns-clause-held
returns-clause-held c =
    let h = held_append c.mark.new.values c.args.levels.now (c.in_ok-mark.mark ∷ [])
    (held_more c.args.values.now c.mark.new.values c.args.levels.now c.mark.ensures.extends c.requires.held)
    (c.in_ok-mark.ensures.is.held, tt) in
    subst (λ (ns : List ℕ). AreHeld c.mark.new.values ns)
    (sym (c.of.ensures ∙ c.in_ok-push.ensures.items ∙ ap (λ ns. ns ++ c.in_ok-mark.mark ∷ []) c.in_ok-all.ensures)) h

pub returns-clause-is : goal.returns-clause-is
returns-clause-is c =
    ap (context_of c.mark.new.values)
    (c.of.ensures ∙ c.in_ok-push.ensures.items ∙ ap (λ ns. ns ++ c.in_ok-mark.mark ∷ []) c.in_ok-all.ensures)
    ∙ question_is c.args.values.now c.mark.new.values c.args.levels.now c.in_ok-mark.mark c.args.lams
    c.mark.ensures.extends c.requires.held c.in_ok-mark.ensures.is
