use Rattle.std.proofs.Common.{◌≡◌, ℕ, ◌<◌, ◌≤◌}
use Rattle.ol_context.specs.Contexts.{empty}
use Rattle.ol_context.specs.Shapes.{context_of}
use Rattle.ol_readback.proofs.fitting.all_empty.Given as goal

abbrev pub invariant-loop-i : goal.invariant-loop-i
invariant-loop-i l = (k : ℕ) → l.from ≤ k → k < l.i → context_of l.values l.context k ≡ empty
