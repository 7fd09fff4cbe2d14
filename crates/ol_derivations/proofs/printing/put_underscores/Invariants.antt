use Rattle.std.proofs.Common.{◌≡◌, ◌++◌}
use Rattle.ol_derivations.specs.Heads.{underscores}
use Rattle.ol_derivations.proofs.printing.put_underscores.Given as goal

abbrev pub invariant-loop-k : goal.invariant-loop-k
invariant-loop-k l = l.text.items ≡ l.fn.text.items ++ underscores l.k
