-- Terms that are told to be `not convertible` aren't.
use Rattle.ol_beta.proofs.Redexes.{no_leftmost}
use Rattle.ol_law_confluence.proofs.Meetings.{convertible_normal}
use Rattle.ol_law_confluence.proofs.PrintedTrees.{road_beta}
use Rattle.ol_derivations.specs.Conversion.{ApartIsNotConvertible}

pub apart_is_not_convertible : ApartIsNotConvertible
apart_is_not_convertible t u h c =
    let d = h.3 in
    let a = d.of_first in
    let b = d.of_second in
    d.differ (convertible_normal c (road_beta a.0 t d.first a.1.leads) (no_leftmost d.first a.1.none)
    (road_beta b.0 u d.second b.1.leads) (no_leftmost d.second b.1.none))
