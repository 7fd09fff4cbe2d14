use Rattle.std.proofs.Common.{ℕ, List, [], ◌∷◌, ◌++◌, Option, subst, ap, ◌∙◌}
use Rattle.ol_context.specs.Shapes.{context_of}
use Rattle.ol_readback.specs.Fitting.{IsNameOf, nameless}
use Rattle.ol_readback.proofs.Climbing.{named_is}
use Rattle.ol_readback.proofs.leaving.named.Goals as goal

pub returns-in-None-clause-answer : goal.returns-in-None-clause-answer
returns-in-None-clause-answer c =
    nameless (subst (λ (r : Option ℕ). IsNameOf c.args.port
    (context_of c.args.values.now c.args.context.now) r) c.in-None.is c.in_ok-name.ensures)

pub returns-in_ok-levels-in-Some-clause-answer : goal.returns-in_ok-levels-in-Some-clause-answer
returns-in_ok-levels-in-Some-clause-answer c =
    let X = context_of c.args.values.now c.args.context.now in
    named_is c.args.values.now c.in_ok-levels-in-Some.levels c.level-first.result c.args.lams
    c.args.port c.in-Some.args X (c.in_ok-levels-in-Some.ensures
    ∙ ap (λ (ns : List ℕ). ns ++ c.level-first.result ∷ [])
    (c.of-none.ensures ∙ c.new.ensures.items)) c.level-first.ensures.is
    (subst (λ (r : Option ℕ). IsNameOf c.args.port X r) c.in-Some.is c.in_ok-name.ensures)
