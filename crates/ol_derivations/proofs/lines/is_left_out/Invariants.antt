use Rattle.std.proofs.Common.{◌≡◌, drop}
use Rattle.ol_derivations.specs.Lines.{is_left_out}
use Rattle.ol_derivations.proofs.lines.is_left_out.Given as goal

abbrev pub invariant-loop-byte : goal.invariant-loop-byte
invariant-loop-byte l = is_left_out (drop l.byte-index l.line) ≡ is_left_out l.line
