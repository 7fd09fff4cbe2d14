use Rattle.std.proofs.Common.{◌+◌, ◌-◌, ◌*◌, take}
use Rattle.ol_term.specs.Trees.{tree_of}
use Rattle.ol_derivations.proofs.Seeking.{Tried}
use Rattle.ol_derivations.proofs.searching.+seeking.Given as goal

abbrev pub decreases-seek : goal.decreases-seek
decreases-seek l = 2 * l.n

abbrev pub decreases-seek_behind : goal.decreases-seek_behind
decreases-seek_behind l = 2 * l.n + 1

abbrev pub invariant-seek-loop-k : goal.invariant-seek-loop-k
invariant-seek-loop-k l = Tried (tree_of l.t) (tree_of l.u) (l.n - 1) (take l.k l.all.items) l.fn.left l.left l.result
