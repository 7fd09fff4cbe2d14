use Rattle.std.proofs.Common.{arith}
use Rattle.ol_net.proofs.Linking.{IsTabled-from_tables}
use Rattle.ol_net.proofs.Building.{Builds-from_tables}
use Rattle.ol_net.proofs.Indexes.{HasIndexes-of_tables}
use Rattle.ol_net.proofs.graph.Net.build_to.Goals as goal

pub invariant_of-result : goal.invariant_of-result
invariant_of-result c =
    let t = IsTabled-from_tables _ _ _ _ _ _ c.in-Ok.ensures in (
      omega (arith, t.0, c.len.ensures, c.in-Ok.live.ok.0),
      omega (arith, t.1, c.deref.ensures.len, c.requires.few_nodes),
      t.2,
      HasIndexes-of_tables _ _ _ _ _ _ c.in-Ok.ensures (omega (arith, c.requires.top)),
    )

pub returns-in-Ok-clause-built : goal.returns-in-Ok-clause-built
returns-in-Ok-clause-built c = rw (c.deref.ensures.value, c.deref-2.ensures.value) at
    (Builds-from_tables _ _ _ _ _ _ c.in-Ok.ensures)
