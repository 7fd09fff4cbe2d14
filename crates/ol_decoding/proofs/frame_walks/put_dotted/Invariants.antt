use Rattle.std.proofs.Common.{◌≡◌, ◌++◌, drop}
use Rattle.ol_equal.specs.Walking.{dotted}
use Rattle.ol_decoding.proofs.frame_walks.put_dotted.Given as goal

abbrev pub invariant-loop-k : goal.invariant-loop-k
invariant-loop-k l = l.text.items ++ dotted (drop l.k l.path) ≡ l.fn.text.items ++ dotted (drop 1 l.path)
