-- Bounds of the parts of a table, under which each word's number is below 2^32.
use Rattle.std.specs.Prelude.{◌≤◌, length}
use Rattle.ol_limits.specs.Limits.{most_fuel}
use Rattle.ol_net.specs.Graph.{Graph}
use Rattle.ol_net.specs.Indexes.{top_index_of}
use Rattle.ol_wire.specs.declared.layout.Parts.{Parts}

pub record IsSmall (z : Parts) : Type 0 where
  pub free : z.free ≤ 1000000
  pub nodes : z.nodes ≤ 1000000
  pub wires : z.wires ≤ 2000000
  pub cells : z.cells ≤ 2000000
  pub fuel : z.fuel ≤ most_fuel

-- The numbers of the net are so small that each reference to a part of it fits its word.
pub record IsSmallNet (net : Graph) : Type 0 where
  pub nodes : length net.nodes ≤ 1000000
  pub free : net.free ≤ 1000000
  pub indexes : top_index_of net.nodes ≤ 1000000
