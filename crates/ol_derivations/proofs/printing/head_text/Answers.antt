use Rattle.std.proofs.Common.{◌++◌, ap, ◌∙◌}
use Rattle.ol_readback.specs.Texts.{rounds}
use Rattle.ol_equal.specs.Comparing.{place_at}
use Rattle.ol_derivations.specs.Heads.{head_text}
use Rattle.ol_derivations.proofs.printing.head_text.Goals as goal

pub returns : goal.returns
returns c k h =
    let ns = c.args.tree.now in
    let w = c.is_whole.ensures.whole in
    let rs = rounds 0 w.tree in
    let p = c.place_of-place.result in
    let names = c.args.names.now in
    let all = c.args.all.now in
    record {
      tree = w.tree;
      listed = w.is_list;
      is = c.in_ok-put_place.ensures w.tree w.is_list
          ∙ ap (λ s. s ++ head_text all names rs p (place_at ns p)) c.new-text.ensures.items
          ∙ ap (λ k. head_text all names rs k (place_at ns k)) (c.place_of-place.ensures k h);
    }
