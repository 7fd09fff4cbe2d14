use Rattle.ol_io.proofs.Readings.{AreOfSince-then}
use Rattle.ol_bench.specs.Inputs.{after_taking, told_of}
use Rattle.ol_bench.proofs.Onward.{parts, no_bytes, solution_read}
use Rattle.ol_bench.proofs.top.of_solution.Goals as goal

pub returns-in_err-answer-in-Ok-clause-told : goal.returns-in_err-answer-in-Ok-clause-told
returns-in_err-answer-in-Ok-clause-told g c =
    AreOfSince-then (g.S.Source.contents c.args.src.now) (g.S.Source.readings c.args.src.now)
    (g.S.Source.readings c.bytes_of.new.src) (g.S.Source.readings c.of_students.new.src)
    c.in-Ok.ensures.told (rw c.in-Ok.ensures.contents at c.of_students.ensures.told)

pub returns-in_ok-answer-in-Ok-clause-told : goal.returns-in_ok-answer-in-Ok-clause-told
returns-in_ok-answer-in-Ok-clause-told g c =
    AreOfSince-then (g.S.Source.contents c.args.src.now) (g.S.Source.readings c.args.src.now)
    (g.S.Source.readings c.bytes_of.new.src) (g.S.Source.readings c.of_students.new.src)
    c.in-Ok.ensures.told (rw c.in-Ok.ensures.contents at c.of_students.ensures.told)

pub returns-in_ok-answer-in-Err-clause-caused : goal.returns-in_ok-answer-in-Err-clause-caused
returns-in_ok-answer-in-Err-clause-caused g c = λ files of.
    let a = c.in_ok-answer-in-Err in
    let e = c.in-Err.ensures in
    no_bytes files (g.S.Source.faults c.args.src.now) (g.S.Source.faults c.bytes_of.new.src)
    a.answer.text.items a.answer.end (told_of files c.args.solution.now) _ c.in-Err.fault e.cause
    (e.longer files of) a.ensures.text a.ensures.refused

pub returns-in_ok-answer-in-Ok-clause-caused : goal.returns-in_ok-answer-in-Ok-clause-caused
returns-in_ok-answer-in-Ok-clause-caused g c = λ files of.
    let a = c.in_ok-answer-in-Ok in
    let e = c.in-Ok.ensures in
    let both = parts c.args.solution.now files (g.S.Source.contents c.bytes_of.new.src)
    (g.S.Source.readings c.args.src.now) (g.S.Source.readings c.bytes_of.new.src)
    (g.S.Source.readings c.of_students.new.src) e.once c.of_students.ensures.told of in
    solution_read files (g.S.Source.faults c.args.src.now) (g.S.Source.faults c.of_students.new.src)
    a.answer.text.items a.answer.end c.args.bounds c.args.inputs.now c.args.solution.now c.args.students.now
    c.in-Ok.bytes.items c.new-none.result.items (g.S.Source.faults c.bytes_of.new.src) (e.whole files both.0) e.cause
    c.new-none.ensures.items
    (rw c.deref.ensures.value at (a.ensures.caused (after_taking c.args.solution.now files) both.1))
