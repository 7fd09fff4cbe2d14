use Rattle.std.proofs.Common.{◌+◌, ◌<◌, length, ap, arith, eqb-true, eq-eqb}
use Rattle.ol_context.specs.Shapes.{value}
use Rattle.ol_context.specs.HeldLevels.{trees}
use Rattle.ol_context.proofs.Once.{one_number}
use Rattle.ol_context.proofs.arena.Values.equal.Goals as goal

pub returns-clause-trees : goal.returns-clause-trees
returns-clause-trees c =
    let ss = c.self.inside.shapes.keys in
    let p : c.a.inside.at < length (trees ss) = rw (c.self.view_is, c.a.view_is) c.requires.first in
    let q : c.b.inside.at < length (trees ss) = rw (c.self.view_is, c.b.view_is) c.requires.second in
    rw (← c.self.view_is, ← c.a.view_is, ← c.b.view_is) (
      λ t. ap (value (trees ss)) (eqb-true c.a.inside.at c.b.inside.at t),
      λ e. eq-eqb c.a.inside.at c.b.inside.at
          (one_number ss c.self.invariant.0 c.self.invariant.1
          (c.a.inside.at + 1) c.a.inside.at c.b.inside.at (omega arith) p q e),
    )
