use Rattle.ol_decoding.proofs.Lacking.{NoneBelow}
use Rattle.ol_decoding.proofs.boehm_trees.lacks_head.Given as goal

abbrev pub invariant-loop-k : goal.invariant-loop-k
invariant-loop-k l = NoneBelow l.k l.tree
