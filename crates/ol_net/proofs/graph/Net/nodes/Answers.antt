use Rattle.std.proofs.Common.{◌∙◌}
use Rattle.ol_net.proofs.Linking.{length-nodes_from}
use Rattle.ol_net.proofs.graph.Net.nodes.Goals as goal

pub returns-clause-nodes : goal.returns-clause-nodes
returns-clause-nodes c = rw (← c.self.view_is) (c.self.invariant.0 ∙ length-nodes_from 0 c.self.inside.nodes.items)
