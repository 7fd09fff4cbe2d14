use Rattle.std.proofs.Common.{arith}
use Rattle.ol_context.proofs.Shapes.{trees_length}
use Rattle.ol_context.proofs.arena.Values.are_few.Goals as goal

pub returns : goal.returns
returns c = let b = c.self.invariant.2 in rw (← c.self.view_is) (omega (arith, trees_length c.self.inside.shapes.keys))
