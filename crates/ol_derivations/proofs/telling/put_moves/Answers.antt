use Rattle.std.proofs.Common.{◌++◌, take, slice_index, sym, ap, ◌∙◌}
use Rattle.std.proofs.lemmas.List.{take_more, flat_map_more}
use Rattle.std.specs.List.{flat_map}
use Rattle.std.specs.Fmt.{decimal}
use Rattle.ol_derivations.proofs.telling.put_moves.Goals as goal

pub loop-k-preserved : goal.loop-k-preserved
loop-k-preserved c =
    let at = c.args.at.now in
    let old = c.args.text.now.items in
    let k = c.loop-k.k in
    c.in_ok-put_number.ensures
    ∙ ap (λ bs. bs ++ decimal (slice_index at k)) c.loop-k.invariant
    ∙ flat_map_more decimal old (take k at) (slice_index at k)
    ∙ ap (λ l. old ++ flat_map decimal l) (sym (take_more at k 0 c.loop-k-test.true))
