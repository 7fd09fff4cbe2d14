use Rattle.std.proofs.Common.{◌≡◌, ◌++◌}
use Rattle.ol_rules.specs.Listed.{each}
use Rattle.ol_wire.specs.LaidWords.{port_row}
use Rattle.ol_wire.proofs.net_words.put_ports.Given as goal

abbrev pub invariant-loop-port : goal.invariant-loop-port
invariant-loop-port l = l.words.items ≡ l.fn.words.items ++ each l.port (port_row l.net l.parts)
