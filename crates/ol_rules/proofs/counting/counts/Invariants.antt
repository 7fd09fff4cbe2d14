use Rattle.std.proofs.Common.{◌≡◌}
use Rattle.std.specs.Prelude.{take}
use Rattle.ol_rules.specs.Counting.{counts_of}
use Rattle.ol_rules.proofs.counting.counts.Given as goal

abbrev pub invariant-loop-k : goal.invariant-loop-k
invariant-loop-k l = l.told ≡ counts_of (take l.k l.j)
