use Rattle.std.proofs.Common.{arith}
use Rattle.ol_context.proofs.Shapes.{trees_length}
use Rattle.ol_context.proofs.arena.Values.count.Goals as goal

pub returns-clause-is : goal.returns-clause-is
returns-clause-is c = rw (← c.self.view_is) (omega (arith, trees_length c.self.inside.shapes.keys, c.len.ensures.len))
