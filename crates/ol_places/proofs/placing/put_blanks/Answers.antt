use Rattle.std.proofs.Common.{◌≡◌, suc, ◌+◌, ◌++◌, append_assoc, take, slice_index, sym, ap, ◌∙◌, arith}
use Rattle.ol_places.specs.Places.{blank, blanks}
use Rattle.ol_places.proofs.Blanks.{blanks_on}
use Rattle.ol_places.proofs.placing.put_blanks.Goals as goal

pub loop-k-preserved : goal.loop-k-preserved
loop-k-preserved c =
    let front = c.args.front.now in
    let old = c.args.text.now.items in
    let k = c.loop-k.k in
    c.in_ok-put_blank.ensures
    ∙ ap (λ bs. bs ++ blank (slice_index front k)) c.loop-k.invariant
    ∙ append_assoc old (blanks (take k front)) (blank (slice_index front k))
    ∙ ap (λ bs. old ++ bs) (sym (blanks_on front k c.loop-k-test.true))
    ∙ ap (λ k. old ++ blanks (take k front)) (let q : suc k ≡ k + 1 = omega arith in q)
