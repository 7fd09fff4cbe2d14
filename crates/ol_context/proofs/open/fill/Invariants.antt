use Rattle.std.proofs.Common.{◌-◌, length}
use Rattle.ol_context.proofs.Passing.{Filling}
use Rattle.ol_context.proofs.open.fill.Given as goal

abbrev pub invariant-loop-k : goal.invariant-loop-k
invariant-loop-k l = Filling l.initial.values l.values l.around.items l.fn.v l.whole l.k

abbrev pub decreases-loop-k : goal.decreases-loop-k
decreases-loop-k l = length l.around.items - l.k
