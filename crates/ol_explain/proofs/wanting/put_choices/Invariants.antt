use Rattle.std.proofs.Common.{◌≡◌, ◌++◌, ◌==◌, drop}
use Rattle.std.specs.Prelude.{count_by, codes}
use Rattle.ol_view.specs.LineReading.{is_digit}
use Rattle.ol_explain.specs.Wanted.{choices}
use Rattle.ol_explain.proofs.wanting.put_choices.Given as goal

-- with the words of the bytes that are left it is the whole
abbrev pub invariant-loop-byte : goal.invariant-loop-byte
invariant-loop-byte l = record {
  ten : l.ten ≡ (count_by is_digit l.bytes == 10);
  whole : l.text.items ++ choices l.ten l.before (drop l.byte-index l.bytes)
      ≡ l.fn.text.items ++ choices l.ten (codes " ") l.bytes;
}
