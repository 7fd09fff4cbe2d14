use Rattle.std.proofs.Common.{◌≡◌, take}
use Rattle.std.specs.Prelude.{string_bytes}
use Rattle.ol_view.specs.EachForm.{wave_trace_text}
use Rattle.ol_view.proofs.wave_tracing.written.Given as goal

-- the entries so far are written
abbrev pub invariant-loop-k : goal.invariant-loop-k
invariant-loop-k l = string_bytes l.text ≡ wave_trace_text (take l.k l.journal) (take l.k l.waves)
