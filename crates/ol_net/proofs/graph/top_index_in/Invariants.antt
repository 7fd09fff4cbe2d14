use Rattle.std.proofs.Common.{◌≡◌, take}
use Rattle.ol_net.specs.Indexes.{top_index_of}
use Rattle.ol_net.proofs.graph.top_index_in.Given as goal

abbrev pub invariant-loop-node : goal.invariant-loop-node
invariant-loop-node l = l.top ≡ top_index_of (take l.node-index l.nodes)
