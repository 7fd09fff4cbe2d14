use Rattle.std.proofs.Common.{◌≡◌, suc, ◌+◌, ◌++◌, append_assoc, take, sym, ap, ◌∙◌, arith}
use Rattle.std.specs.Fmt.{decimal}
use Rattle.std.specs.List.{flat_map}
use Rattle.ol_beta.proofs.Moves.{moves_on}
use Rattle.ol_steps.proofs.lines.put_moves.Goals as goal

pub loop-k-preserved : goal.loop-k-preserved
loop-k-preserved c =
    let at = c.args.at.now in
    let old = c.args.text.now.items in
    let k = c.loop-k.k in
    let m = c.in-Some.to in
    c.in_ok-put_number.ensures
    ∙ ap (λ bs. bs ++ decimal m) c.loop-k.invariant
    ∙ append_assoc old (flat_map decimal (take k at)) (decimal m)
    ∙ ap (λ bs. old ++ bs) (sym (moves_on at k m (sym c.get.ensures.move_is ∙ c.in-Some.is)))
    ∙ ap (λ k. old ++ flat_map decimal (take k at)) (let q : suc k ≡ k + 1 = omega arith in q)
