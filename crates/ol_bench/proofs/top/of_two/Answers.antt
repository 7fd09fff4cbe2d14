use Rattle.std.proofs.Common.{◌≤◌, List, ℕ, length, ap, sym, subst}
use Rattle.ol_io.proofs.Readings.{AreOfSince-then}
use Rattle.ol_bench.specs.Inputs.{most_of, after_taking}
use Rattle.ol_bench.specs.Commands.{contents_of}
use Rattle.ol_bench.proofs.Judging.{first_alone, two_reads}
use Rattle.ol_bench.proofs.Onward.{parts, two_not_read, two_read}
use Rattle.ol_bench.proofs.top.of_two.Goals as goal

pub onward-requires-clause-short : goal.onward-requires-clause-short
onward-requires-clause-short g c =
    let e = c.in-Ok.ensures in
    let short = (e.whole (λ n. g.S.Source.contents c.args.src.now) e.told).1 in
    subst (λ (bytes : List ℕ). length bytes ≤ most_of (contents_of c.args.command).0)
    (sym c.deref.ensures.value)
    (subst (λ content. length c.in-Ok.bytes.items ≤ most_of content)
    (ap (λ both. both.0) c.contents-content.ensures) short)

pub returns-in_err-answer-in-Ok-clause-told : goal.returns-in_err-answer-in-Ok-clause-told
returns-in_err-answer-in-Ok-clause-told g c =
    AreOfSince-then (g.S.Source.contents c.args.src.now) (g.S.Source.readings c.args.src.now)
    (g.S.Source.readings c.bytes_of.new.src) (g.S.Source.readings c.onward.new.src)
    c.in-Ok.ensures.told (rw c.in-Ok.ensures.contents at c.onward.ensures.told)

pub returns-in_ok-answer-in-Ok-clause-told : goal.returns-in_ok-answer-in-Ok-clause-told
returns-in_ok-answer-in-Ok-clause-told g c =
    AreOfSince-then (g.S.Source.contents c.args.src.now) (g.S.Source.readings c.args.src.now)
    (g.S.Source.readings c.bytes_of.new.src) (g.S.Source.readings c.onward.new.src)
    c.in-Ok.ensures.told (rw c.in-Ok.ensures.contents at c.onward.ensures.told)

pub returns-in_ok-answer-in-Err-clause-caused : goal.returns-in_ok-answer-in-Err-clause-caused
returns-in_ok-answer-in-Err-clause-caused g c = λ files of.
    let a = c.in_ok-answer-in-Err in
    let e = c.in-Err.ensures in
    two_not_read files (g.S.Source.faults c.args.src.now) (g.S.Source.faults c.bytes_of.new.src)
    a.answer.text.items a.answer.end c.contents-content.result.0 c.in-Err.fault e.cause a.ensures.text
    a.ensures.refused c.args.command c.args.file.now c.args.other.now
    (ap (λ both. both.0) c.contents-content.ensures) (e.longer files of)

pub returns-in_ok-answer-in-Ok-clause-caused : goal.returns-in_ok-answer-in-Ok-clause-caused
returns-in_ok-answer-in-Ok-clause-caused g c = λ files of.
    let a = c.in_ok-answer-in-Ok in
    let e = c.in-Ok.ensures in
    let both = parts c.args.file.now files (g.S.Source.contents c.bytes_of.new.src)
    (g.S.Source.readings c.args.src.now) (g.S.Source.readings c.bytes_of.new.src)
    (g.S.Source.readings c.onward.new.src) e.once c.onward.ensures.told of in
    two_read files (g.S.Source.faults c.args.src.now) (g.S.Source.faults c.onward.new.src)
    a.answer.text.items a.answer.end c.contents-content.result.0 c.args.command c.args.file.now
    c.args.other.now c.in-Ok.bytes.items (g.S.Source.faults c.bytes_of.new.src)
    (ap (λ both. both.0) c.contents-content.ensures) (e.whole files both.0) e.cause
    (rw c.deref.ensures.value at (a.ensures.caused (after_taking c.args.file.now files) both.1))

pub returns-in_err-answer-in-Err-clause-no_further : goal.returns-in_err-answer-in-Err-clause-no_further
returns-in_err-answer-in-Err-clause-no_further g c =
    first_alone c.args.command c.args.file.now c.args.other.now (g.S.Source.readings c.args.src.now)
    (g.S.Source.readings c.bytes_of.new.src) c.in-Err.ensures.once

pub returns-in_err-answer-in-Ok-clause-no_further : goal.returns-in_err-answer-in-Ok-clause-no_further
returns-in_err-answer-in-Ok-clause-no_further g c =
    let e = c.in-Ok.ensures in
    two_reads c.args.command c.args.file.now c.args.other.now c.in-Ok.bytes.items
    (most_of c.contents-content.result.0) (g.S.Source.readings c.args.src.now)
    (g.S.Source.readings c.bytes_of.new.src) (g.S.Source.readings c.onward.new.src) e.once e.whole
    (rw c.deref.ensures.value at c.onward.ensures.no_further)

pub returns-in_ok-answer-in-Err-clause-no_further : goal.returns-in_ok-answer-in-Err-clause-no_further
returns-in_ok-answer-in-Err-clause-no_further g c =
    first_alone c.args.command c.args.file.now c.args.other.now (g.S.Source.readings c.args.src.now)
    (g.S.Source.readings c.bytes_of.new.src) c.in-Err.ensures.once

pub returns-in_ok-answer-in-Ok-clause-no_further : goal.returns-in_ok-answer-in-Ok-clause-no_further
returns-in_ok-answer-in-Ok-clause-no_further g c =
    let e = c.in-Ok.ensures in
    two_reads c.args.command c.args.file.now c.args.other.now c.in-Ok.bytes.items
    (most_of c.contents-content.result.0) (g.S.Source.readings c.args.src.now)
    (g.S.Source.readings c.bytes_of.new.src) (g.S.Source.readings c.onward.new.src) e.once e.whole
    (rw c.deref.ensures.value at c.onward.ensures.no_further)
