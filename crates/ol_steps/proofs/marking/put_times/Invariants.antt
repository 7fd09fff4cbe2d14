use Rattle.std.proofs.Common.{◌≡◌, ◌++◌, replicate}
use Rattle.ol_steps.proofs.marking.put_times.Given as goal

abbrev pub invariant-loop-k : goal.invariant-loop-k
invariant-loop-k l = l.text.items ≡ l.fn.text.items ++ replicate l._k l.byte
