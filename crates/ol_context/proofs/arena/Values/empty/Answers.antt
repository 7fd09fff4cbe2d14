use Rattle.std.proofs.Common.{arith}
use Rattle.ol_context.proofs.Shapes.{trees_length, first_is_empty}
use Rattle.ol_context.proofs.arena.Values.empty.Goals as goal

pub returns : goal.returns
returns c = rw (← c.self.view_is) (record {
  held = omega
      (arith, trees_length c.self.inside.shapes.keys);
  is = first_is_empty c.self.inside.shapes.keys;
})
