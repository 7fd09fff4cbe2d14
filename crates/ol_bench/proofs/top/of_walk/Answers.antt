use Rattle.std.proofs.Common.{◌≤◌, List, ℕ, length, sym, subst}
use Rattle.ol_limits.specs.Limits.{most_term_bytes}
use Rattle.ol_bench.specs.Inputs.{told_of}
use Rattle.ol_bench.proofs.Onward.{no_bytes, walk_read}
use Rattle.ol_bench.proofs.top.of_walk.Goals as goal

pub frame_walk-requires : goal.frame_walk-requires
frame_walk-requires g c =
    let e = c.in-Ok.ensures in
    record {
      short = subst (λ (bytes : List ℕ). length bytes ≤ most_term_bytes) (sym c.deref.ensures.value)
          (e.whole (λ n. g.S.Source.contents c.args.src.now) e.told).1;
    }

pub returns-in_ok-answer-in-Err-clause-caused : goal.returns-in_ok-answer-in-Err-clause-caused
returns-in_ok-answer-in-Err-clause-caused g c = λ files of.
    let a = c.in_ok-answer-in-Err in
    let e = c.in-Err.ensures in
    no_bytes files (g.S.Source.faults c.args.src.now) (g.S.Source.faults c.bytes_of.new.src)
    a.answer.text.items a.answer.end (told_of files c.args.file.now) _ c.in-Err.fault e.cause
    (e.longer files of) a.ensures.text a.ensures.refused

pub returns-in_ok-answer-in-Ok-clause-caused : goal.returns-in_ok-answer-in-Ok-clause-caused
returns-in_ok-answer-in-Ok-clause-caused g c = λ files of.
    let a = c.in_ok-answer-in-Ok in
    let e = c.in-Ok.ensures in
    walk_read files (g.S.Source.faults c.args.src.now) (g.S.Source.faults c.bytes_of.new.src)
    a.answer.text.items a.answer.end c.args.wanted.now c.args.file.now c.in-Ok.bytes.items
    (e.whole files of) e.cause (rw c.deref.ensures.value at a.ensures)
