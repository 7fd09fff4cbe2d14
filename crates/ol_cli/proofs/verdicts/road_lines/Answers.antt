use Rattle.std.proofs.Common.{◌≡◌, ℕ, suc, ◌+◌, ◌++◌, List, codes, length, arith, append_assoc}
use Rattle.std.proofs.Common.{take, option_map, sym, ap, ◌∙◌}
use Rattle.ol_cli.specs.Texts.{line, count_line}
use Rattle.ol_beta.specs.AddressTexts.{address_text}
use Rattle.ol_cli.specs.Certify.{addresses_text}
use Rattle.ol_cli.proofs.VerdictLines.{addresses_on}
use Rattle.ol_cli.proofs.verdicts.road_lines.Goals as goal

pub loop-k-preserved : goal.loop-k-preserved
loop-k-preserved c =
    let road = c.args.road.now in
    let at = c.in-Some.at.now in
    let front : List ℕ = line c.args.word.now ++ count_line (codes "steps") (length road) in
    let t = addresses_on road c.loop-k.k at (sym c.get.ensures.address ∙ ap (option_map (λ a. a.now)) c.in-Some.is) in
    c.in_ok-add_address.ensures
    ∙ ap (λ bs. bs ++ line (address_text at)) c.loop-k.invariant
    ∙ append_assoc front (addresses_text (take c.loop-k.k road)) (line (address_text at))
    ∙ ap (λ bs. front ++ bs) (sym t)
    ∙ ap (λ k. front ++ addresses_text (take k road)) (let q : suc c.loop-k.k ≡ c.loop-k.k + 1 = omega arith in q)
