use Rattle.std.proofs.Common.{◌∙◌}
use Rattle.ol_net.proofs.Reading.{top_index_of-some, top_index_of-none}
use Rattle.ol_net.proofs.graph.top_index_in.Goals as goal
use Rattle.ol_net.proofs.graph.top_index_in.Goals.{in-Some, in_default}

pub loop-node-preserved : goal.loop-node-preserved
loop-node-preserved c = elim c.match-node.branch [
  | in-Some w ↦ w.top-is ∙ w.max-top.ensures
      ∙ top_index_of-some _ _ _ _ c.loop-node-test.true w.in-Some.is c.loop-node.invariant
  | in_default w ↦ w.top-is ∙ top_index_of-none _ _ _ c.loop-node-test.true w.in_default.is c.loop-node.invariant
]
