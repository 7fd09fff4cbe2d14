use Rattle.std.proofs.Common.{◌++◌, List, ℕ, [], ◌∷◌, sym, ap, ◌∙◌, append_assoc}
use Rattle.ol_derivations.specs.Heads.{underscores}
use Rattle.ol_derivations.proofs.Printed.{underscored}
use Rattle.ol_derivations.proofs.printing.put_underscores.Goals as goal

pub loop-k-preserved : goal.loop-k-preserved
loop-k-preserved c =
    let start = c.args.text.now.items in
    let k = c.loop-k.k in
    c.in_ok-put.ensures ∙ ap (λ (s : List ℕ). s ++ 32 ∷ (95 ∷ [])) c.loop-k.invariant
    ∙ append_assoc start (underscores k) (32 ∷ (95 ∷ [])) ∙ ap (λ s. start ++ s) (sym (underscored k))
