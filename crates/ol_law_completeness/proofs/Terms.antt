-- The runs of the nets of strongly normalising terms.
-- For `strongly_normalising_ends`.
use Rattle.std.proofs.Common.{suc, ◌*◌, length}
use Rattle.ol_rules.proofs.Recount.{net_same}
use Rattle.ol_net.specs.Numbered.{net_of}
use Rattle.ol_translate.specs.Translation.{translation_of}
use Rattle.ol_law_completeness.specs.StrongNormalisation.{StronglyNormalisingEnds}
use Rattle.ol_law_completeness.specs.Weights.{weight}
use Rattle.ol_law_completeness.proofs.Bounding.{strong_is_bounded}
use Rattle.ol_law_completeness.proofs.Running.{graph}

pub strongly_normalising_ends : StronglyNormalisingEnds
strongly_normalising_ends τ t names has strong =
    let b = strong_is_bounded τ t names has strong in
    let N = translation_of τ t names in (
      length N.nodes * weight (suc b.0),
      λ g n same. graph N b.0 (net_same (net_of g) N same n) b.1 g n same,
    )
