use Rattle.std.proofs.Common.{◌≡◌, ◌≤◌, take, count_by}
use Rattle.ol_counts.specs.Tallies.{is_read}
use Rattle.ol_counts.proofs.tallies.places_read.Given as goal

abbrev pub invariant-loop-k : goal.invariant-loop-k
invariant-loop-k l = (l.places ≡ count_by is_read (take l.k l.tree)) × (l.places ≤ l.k)
