use Rattle.std.proofs.Common.{◌≡◌}
use Rattle.ol_counts.specs.Machines.{behind}
use Rattle.ol_counts.specs.HeldMachines.{machine_of}
use Rattle.ol_counts.proofs.need.Reducer.behind.Given as goal

abbrev pub invariant-loop-k : goal.invariant-loop-k
invariant-loop-k l = l.rest ≡ behind (machine_of l.self).links l._k l.fn.chain
