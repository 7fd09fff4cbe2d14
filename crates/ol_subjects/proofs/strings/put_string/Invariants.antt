use Rattle.std.proofs.Common.{◌≡◌, ◌++◌, drop}
use Rattle.std.specs.Prelude.{codes}
use Rattle.std.specs.List.{flat_map}
use Rattle.ol_subjects.specs.Strings.{in_string}
use Rattle.ol_subjects.proofs.strings.put_string.Given as goal

-- with what stands for the bytes that are left it is the whole
abbrev pub invariant-loop-byte : goal.invariant-loop-byte
invariant-loop-byte l = l.text.items ++ flat_map in_string (drop l.byte-index l.bytes)
    ≡ l.fn.text.items ++ codes "\"" ++ flat_map in_string l.bytes
