use Rattle.std.proofs.Common.{arith, sym, ◌∙◌}
use Rattle.ol_wire.proofs.net_words.node_word.Goals as goal
use Rattle.ol_net.proofs.Indexes.{top_is_top}

pub node_ref-requires : goal.node_ref-requires
node_ref-requires c =
    let h = top_is_top c.args.net.now.nodes c.args.node (c.in-Some.kind, c.in-Some.index)
    (sym c.kind_of.ensures.table ∙ c.in-Some.is) in
    omega (arith, h, c.requires.small.1.indexes)
