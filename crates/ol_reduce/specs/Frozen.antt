-- The net that closed words stand for, as a net with numbers.
use Rattle.std.specs.Prelude.{◌≡◌, ℕ, ◌<◌, true, is_some, count_by, length}
use Rattle.ol_net.specs.Nets.{NamedNet, SameNet, net_under}
use Rattle.ol_net.specs.Numbered.{net_of}
use Rattle.ol_net.specs.Graph.{Graph}
use Rattle.ol_rules.specs.declared.journal.NodeName.{NodeName}
use Rattle.ol_rules.specs.Names.{comes_before}

-- The frozen net is this net: its nodes are numbered by ascending name, and each number has a node.
pub record IsFrozen (net : NamedNet NodeName) (g : Graph) : Type 0 where
  pub names : ℕ → NodeName
  pub rising : (j k : ℕ) → j < k → k < length g.nodes → comes_before (names j) (names k) ≡ true
  pub whole : count_by is_some g.nodes ≡ length g.nodes
  pub same : SameNet (net_under names (net_of g)) net
