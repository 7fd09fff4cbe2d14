use Rattle.std.proofs.Common.{◌≤◌, List, ℕ, length, sym, subst}
use Rattle.ol_bench.specs.Inputs.{most_of}
use Rattle.ol_bench.specs.Commands.{content_of}
use Rattle.ol_bench.proofs.Onward.{one_not_read, one_read}
use Rattle.ol_bench.proofs.top.of_one.Goals as goal

pub answer-requires : goal.answer-requires
answer-requires g c =
    let e = c.in-Ok.ensures in
    let short = (e.whole (λ n. g.S.Source.contents c.args.src.now) e.told).1 in
    record {
      short = subst (λ (bytes : List ℕ). length bytes ≤ most_of (content_of c.args.command))
          (sym c.deref.ensures.value)
          (subst (λ content. length c.in-Ok.bytes.items ≤ most_of content) c.content-content.ensures short);
    }

pub returns-in_ok-answer-in-Err-clause-caused : goal.returns-in_ok-answer-in-Err-clause-caused
returns-in_ok-answer-in-Err-clause-caused g c = λ files of.
    let a = c.in_ok-answer-in-Err in
    let e = c.in-Err.ensures in
    one_not_read files (g.S.Source.faults c.args.src.now) (g.S.Source.faults c.bytes_of.new.src)
    a.answer.text.items a.answer.end c.content-content.result c.in-Err.fault e.cause a.ensures.text a.ensures.refused
    c.args.command c.args.file.now c.content-content.ensures (e.longer files of)

pub returns-in_ok-answer-in-Ok-clause-caused : goal.returns-in_ok-answer-in-Ok-clause-caused
returns-in_ok-answer-in-Ok-clause-caused g c = λ files of.
    let a = c.in_ok-answer-in-Ok in
    let e = c.in-Ok.ensures in
    one_read files (g.S.Source.faults c.args.src.now) (g.S.Source.faults c.bytes_of.new.src)
    a.answer.text.items a.answer.end c.content-content.result c.args.command c.args.file.now
    c.in-Ok.bytes.items c.content-content.ensures (e.whole files of) e.cause
    (rw c.deref.ensures.value at a.ensures)
