use Rattle.std.proofs.Common.{◌+◌, ◌++◌, ◌∷◌, [], length, ap, ◌∙◌}
use Rattle.ol_term.proofs.Doubling.{length_text}
use Rattle.ol_term.proofs.generating.make.Goals as goal

pub returns-clause-size : goal.returns-clause-size
returns-clause-size c = ap (λ bs. length bs + 2)
    (c.in_ok-put.ensures.put ∙ ap (λ bs. bs ++ 10 ∷ []) c.in_ok-text.ensures.made) ∙ length_text c.args.k
