use Rattle.std.specs.BTreeSet.{btree_set_len}
use Rattle.ol_orders.proofs.ActivePairs.{AreTaken}
use Rattle.ol_orders.proofs.playing.take_pairs.Given as goal

abbrev pub invariant-loop-n : goal.invariant-loop-n
invariant-loop-n l = AreTaken l.net l.waiting l.pairs.items

abbrev pub decreases-loop-n : goal.decreases-loop-n
decreases-loop-n l = btree_set_len l.waiting
