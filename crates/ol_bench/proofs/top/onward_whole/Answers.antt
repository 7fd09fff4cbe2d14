use Rattle.std.proofs.Common.{◌≤◌, List, ℕ, length, ap, sym, subst}
use Rattle.ol_bench.specs.Inputs.{most_of}
use Rattle.ol_bench.specs.Commands.{contents_of}
use Rattle.ol_bench.proofs.Onward.{onward_not_read, onward_read}
use Rattle.ol_bench.proofs.top.onward_whole.Goals as goal

pub answer-requires-clause-short_more : goal.answer-requires-clause-short_more
answer-requires-clause-short_more g c =
    let e = c.in-Ok.ensures in
    let short = (e.whole (λ n. g.S.Source.contents c.args.src.now) e.told).1 in
    subst (λ (bytes : List ℕ). length bytes ≤ most_of (contents_of c.args.command).1)
    (sym c.deref.ensures.value)
    (subst (λ content. length c.in-Ok.more.items ≤ most_of content)
    (ap (λ both. both.1) c.contents-content.ensures) short)

pub returns-in_ok-answer-in-Err-clause-caused : goal.returns-in_ok-answer-in-Err-clause-caused
returns-in_ok-answer-in-Err-clause-caused g c = λ files of.
    let a = c.in_ok-answer-in-Err in
    let e = c.in-Err.ensures in
    onward_not_read files (g.S.Source.faults c.args.src.now) (g.S.Source.faults c.bytes_of.new.src)
    a.answer.text.items a.answer.end c.contents-content.result.1 c.in-Err.fault e.cause a.ensures.text
    a.ensures.refused c.args.command c.args.bytes.now c.args.other.now
    (ap (λ both. both.1) c.contents-content.ensures) (e.longer files of)

pub returns-in_ok-answer-in-Ok-clause-caused : goal.returns-in_ok-answer-in-Ok-clause-caused
returns-in_ok-answer-in-Ok-clause-caused g c = λ files of.
    let a = c.in_ok-answer-in-Ok in
    let e = c.in-Ok.ensures in
    onward_read files (g.S.Source.faults c.args.src.now) (g.S.Source.faults c.bytes_of.new.src)
    a.answer.text.items a.answer.end c.contents-content.result.1 c.args.command c.args.bytes.now
    c.in-Ok.more.items c.args.other.now (ap (λ both. both.1) c.contents-content.ensures)
    (e.whole files of) e.cause (rw c.deref.ensures.value at a.ensures)
