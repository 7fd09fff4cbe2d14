use Rattle.std.proofs.Common.{ℕ, List, Option, length}
use Rattle.ol_readback.specs.declared.printing.Open.{Open}
use Rattle.ol_readback.specs.Printing.{Takes}
use Rattle.ol_readback.proofs.printing.take.Given as goal

abbrev pub invariant-loop-head : goal.invariant-loop-head
invariant-loop-head l = (r : Option ℕ) (x : List ℕ) (os : List Open) →
    Takes l.text.items l.pending.items r x os → Takes l.initial.text.items l.initial.pending.items r x os

abbrev pub decreases-loop-head : goal.decreases-loop-head
decreases-loop-head l = length l.pending.items
