use Rattle.std.proofs.Common.{sym, ◌∙◌}
use Rattle.ol_context.proofs.Crossings.{node_port, has_kind}
use Rattle.ol_decoding.proofs.trailing.put_crossing.Goals as goal

pub unreachable-requires-in_default-kind_of : goal.unreachable-requires-in_default-kind_of
unreachable-requires-in_default-kind_of c =
    has_kind c.args.net.now c.in-Of.node.0 c.in-Of.slot
    (node_port c.args.net.now c.args.at c.in-Of.node c.in-Of.slot c.in-Of.is c.requires.port)
    (sym c.kind_of.ensures.table ∙ c.in_default-kind_of.is)
