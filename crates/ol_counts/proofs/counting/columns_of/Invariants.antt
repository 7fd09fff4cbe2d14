use Rattle.std.proofs.Common.{drop}
use Rattle.ol_counts.specs.Tabled.{tree_in}
use Rattle.ol_counts.specs.Tallies.{IsTally}
use Rattle.ol_counts.specs.Ways.{all_ways}
use Rattle.ol_counts.proofs.ColumnsSoFar.{AreBegun}
use Rattle.ol_counts.proofs.counting.columns_of.Given as goal

abbrev pub invariant-loop-way : goal.invariant-loop-way
invariant-loop-way l =
    AreBegun (IsTally l.net (tree_in l.term) l.bounds) l.columns l.shown.items (drop l.way-index all_ways)
