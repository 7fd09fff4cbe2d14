use Rattle.std.proofs.Common.{◌≡◌, ◌≤◌, ◌++◌, map, take}
use Rattle.ol_context.specs.Shapes.{value}
use Rattle.ol_decoding.specs.Lines.{levels_text}
use Rattle.ol_decoding.proofs.writing.put_levels.Given as goal

abbrev pub invariant-loop-k : goal.invariant-loop-k
invariant-loop-k l = (1 ≤ l.k)
    × (l.text.items ≡ l.fn.text.items ++ levels_text (take l.k (map (value l.values) l.context)))
