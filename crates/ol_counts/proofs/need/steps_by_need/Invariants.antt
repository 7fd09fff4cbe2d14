use Rattle.std.proofs.Common.{◌≡◌}
use Rattle.ol_term.specs.Trees.{tree_of}
use Rattle.ol_counts.specs.Machines.{after, begun}
use Rattle.ol_counts.specs.HeldMachines.{machine_of}
use Rattle.ol_counts.proofs.need.steps_by_need.Given as goal

abbrev pub invariant-loop-made : goal.invariant-loop-made
invariant-loop-made l = machine_of l.machine ≡ after l._made (begun (tree_of l.fn.term))
