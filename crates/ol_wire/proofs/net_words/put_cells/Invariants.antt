use Rattle.std.proofs.Common.{◌≡◌, ◌≤◌, ◌++◌, length}
use Rattle.ol_rules.specs.Listed.{each}
use Rattle.ol_wire.specs.LaidWords.{cell_words}
use Rattle.ol_wire.specs.Starts.{pair_at}
use Rattle.ol_wire.proofs.net_words.put_cells.Given as goal

abbrev pub invariant-loop-node : goal.invariant-loop-node
invariant-loop-node l = (l.words.items ≡ l.fn.words.items ++ cell_words l.net l.parts
    (each l.node (pair_at l.net))) × (l.cells ≡ length (each l.node (pair_at l.net))) × (l.cells ≤ l.node)
