use Rattle.std.proofs.Common.{arith}
use Rattle.ol_net.proofs.Indexes.{top_is_top}
use Rattle.ol_rules.proofs.Born.{may_all}
use Rattle.ol_rules.proofs.steps.rewrite.Goals as goal

pub cross_with_none-requires-clause-indexes : goal.cross_with_none-requires-clause-indexes
cross_with_none-requires-clause-indexes c = may_all _ _ _ _ _ _ _ c.is_tabled.ensures.indexes
    c.requires.pair.is_f c.requires.pair.is_g c.requires.fits (omega arith)

pub cross_with_two-requires-clause-indexes : goal.cross_with_two-requires-clause-indexes
cross_with_two-requires-clause-indexes c = may_all _ _ _ _ _ _ _ c.is_tabled.ensures.indexes
    c.requires.pair.is_f c.requires.pair.is_g c.requires.fits (omega arith)

pub cross_with_one-requires-clause-indexes : goal.cross_with_one-requires-clause-indexes
cross_with_one-requires-clause-indexes c = may_all _ _ _ _ _ _ _ c.is_tabled.ensures.indexes
    c.requires.pair.is_f c.requires.pair.is_g c.requires.fits (omega arith)

pub cross_with_one-requires-in-CrossBracket-clause-indexes : goal.cross_with_one-requires-in-CrossBracket-clause-indexes
cross_with_one-requires-in-CrossBracket-clause-indexes c = may_all _ _ _ _ _ _ _
    c.is_tabled.ensures.indexes c.requires.pair.is_f c.requires.pair.is_g c.requires.fits (omega arith)

pub overflow_add-pair : goal.overflow_add-pair
overflow_add-pair c =
    let t = top_is_top c.args.net.now.nodes c.args.pair.g.0 c.args.pair.of_g c.requires.pair.is_g in
    let b = c.is_tabled.ensures.indexes.top in
    omega (arith, c.requires.few)
