use Rattle.std.proofs.Common.{ℕ, List}
use Rattle.ol_net.specs.Graph.{Graph}
use Rattle.ol_view.specs.Feeding.{IsFed}
use Rattle.ol_net_tests.proofs.checks.found_by_bytes.Given as goal

abbrev pub invariant-loop-at : goal.invariant-loop-at
invariant-loop-at l = (net : Graph) × (text : List ℕ) × IsFed net text l.checker
