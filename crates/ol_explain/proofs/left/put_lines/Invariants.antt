use Rattle.std.proofs.Common.{◌≡◌, ◌++◌, take, drop}
use Rattle.std.specs.Prelude.{string_bytes}
use Rattle.ol_view.specs.EachForm.{wave_lines_text}
use Rattle.ol_explain.proofs.left.put_lines.Given as goal

-- the lines so far are put
abbrev pub invariant-loop-k : goal.invariant-loop-k
invariant-loop-k l = string_bytes l.text
    ≡ string_bytes l.fn.text ++ wave_lines_text (take l.k l.entries) (take l.k (drop l.from l.waves))
