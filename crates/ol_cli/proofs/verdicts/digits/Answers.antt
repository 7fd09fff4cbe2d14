use Rattle.std.proofs.Common.{◌≡◌, suc, ◌+◌, ◌++◌, arith, take, sym, ap, ◌∙◌}
use Rattle.std.specs.Fmt.{decimal}
use Rattle.std.specs.List.{flat_map}
use Rattle.ol_beta.proofs.Moves.{moves_on}
use Rattle.ol_cli.proofs.verdicts.digits.Goals as goal

pub loop-k-preserved : goal.loop-k-preserved
loop-k-preserved c =
    let m = c.in-Some.step in
    let t = moves_on c.args.at.now c.loop-k.k m (sym c.get.ensures.move_is ∙ c.in-Some.is) in
    c.in-Ok.ensures.bytes
    ∙ ap (λ bs. bs ++ decimal m) c.loop-k.invariant
    ∙ sym t
    ∙ ap (λ k. flat_map decimal (take k c.args.at.now)) (let q : suc c.loop-k.k ≡ c.loop-k.k + 1 = omega arith in q)
