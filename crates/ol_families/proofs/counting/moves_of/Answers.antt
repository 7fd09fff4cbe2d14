use Rattle.std.proofs.Common.{◌≡◌, ◌++◌, ◌∷◌, [], take, Some, sym, ap, ◌∙◌}
use Rattle.std.specs.Prelude.{slice_get}
use Rattle.std.proofs.lemmas.List.{take_more}
use Rattle.std.proofs.lemmas.Option.{get_or_from_slice_get, slice_get_within}
use Rattle.ol_families.proofs.counting.moves_of.Goals as goal

pub loop-k-preserved : goal.loop-k-preserved
loop-k-preserved c =
    let at = c.args.at.now in
    let k = c.loop-k.k in
    let m = c.in-Some.to in
    let here : slice_get at k ≡ Some m = sym c.in-Some.ensures.move_is in
    c.in_ok-push.ensures.items
    ∙ ap (λ l. l ++ (m ∷ [])) c.loop-k.invariant
    ∙ sym (take_more at k 0 (slice_get_within at k m here)
    ∙ ap (λ x. take k at ++ (x ∷ [])) (get_or_from_slice_get at k m 0 here))
