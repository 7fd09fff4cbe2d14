use Rattle.std.proofs.Common.{◌≡◌, ℕ, ◌<◌, map, get_or}
use Rattle.ol_context.specs.Contexts.{empty}
use Rattle.ol_context.specs.Shapes.{value, context_of}
use Rattle.ol_readback.proofs.fitting.begins_with.Given as goal

abbrev pub invariant-loop-i : goal.invariant-loop-i
invariant-loop-i l = (k : ℕ) → k < l.i →
    context_of l.values l.context k ≡ get_or (map (value l.values) l.levels.items) k empty
