use Rattle.std.proofs.Common.{◌≡◌, ◌++◌}
use Rattle.ol_rules.specs.Listed.{each}
use Rattle.ol_wire.specs.Laid.{wires_before}
use Rattle.ol_wire.specs.LaidWords.{field_row, HasFields}
use Rattle.ol_wire.proofs.net_words.put_nodes.Given as goal

abbrev pub invariant-loop-node : goal.invariant-loop-node
invariant-loop-node l = (l.words.items ≡ l.fn.words.items ++ each l.node (field_row l.net l.parts))
    × (l.wires ≡ wires_before l.net l.node 0) × HasFields l.net l.parts l.words.items l.node 0
