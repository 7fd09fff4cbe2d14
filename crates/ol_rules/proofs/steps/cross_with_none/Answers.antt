use Rattle.std.proofs.Common.{arith}
use Rattle.ol_rules.proofs.Born.{may_listed, at_most_two}
use Rattle.ol_rules.proofs.steps.cross_with_none.Goals as goal

pub replace-requires-in-1-clause-indexes : goal.replace-requires-in-1-clause-indexes
replace-requires-in-1-clause-indexes c =
    let most = at_most_two c.args.pair.of_g.0 in
    may_listed _ c.args.pair.of_f c.args.pair.of_g c.args.index 0 1 c.requires.none_of_f
    (omega arith) c.requires.indexes

pub replace-requires-in_default-clause-indexes : goal.replace-requires-in_default-clause-indexes
replace-requires-in_default-clause-indexes c =
    let most = at_most_two c.args.pair.of_g.0 in
    may_listed _ c.args.pair.of_f c.args.pair.of_g c.args.index 0 2 c.requires.none_of_f
    (omega arith) c.requires.indexes
