use Rattle.std.proofs.Common.{sym, ◌∙◌, subst, length}
use Rattle.ol_readback.specs.Texts.{IsNamedNode}
use Rattle.ol_derivations.proofs.Printed.{named_at}
use Rattle.ol_derivations.proofs.printing.put_place.Goals as goal

pub put_variable-requires : goal.put_variable-requires
put_variable-requires c =
    let n = length c.args.names.now in
    record {
      free = subst (IsNamedNode n) (sym c.node_at.ensures ∙ c.in-Head.is)
          (named_at n c.args.tree.now c.args.k c.requires.free);
    }
