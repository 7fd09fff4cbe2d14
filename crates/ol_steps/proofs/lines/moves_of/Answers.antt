use Rattle.std.proofs.Common.{◌≡◌, suc, ◌+◌, ◌++◌, ◌∷◌, [], take, sym, ap, ◌∙◌, arith}
use Rattle.ol_steps.proofs.Marked.{take_on}
use Rattle.ol_steps.proofs.lines.moves_of.Goals as goal

pub loop-k-preserved : goal.loop-k-preserved
loop-k-preserved c =
    let at = c.args.at.now in
    let k = c.loop-k.k in
    let m = c.in-Some.to in
    c.in_ok-push.ensures.items
    ∙ ap (λ ms. ms ++ m ∷ []) c.loop-k.invariant
    ∙ sym (take_on at k m (sym c.get.ensures.move_is ∙ c.in-Some.is))
    ∙ ap (λ k. take k at) (let q : suc k ≡ k + 1 = omega arith in q)
