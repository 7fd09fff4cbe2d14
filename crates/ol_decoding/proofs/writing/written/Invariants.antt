use Rattle.std.proofs.Common.{◌≡◌, ◌≤◌, length, map, take}
use Rattle.ol_context.specs.Contexts.{levels}
use Rattle.ol_context.specs.Shapes.{value, context_of}
use Rattle.ol_decoding.proofs.writing.written.Given as goal

abbrev pub invariant-levels : goal.invariant-levels
invariant-levels l = (l.len ≤ length l.context)
    × (levels (take l.len (map (value l.values) l.context)) ≡ context_of l.values l.context)

abbrev pub decreases-levels : goal.decreases-levels
decreases-levels l = l.len
