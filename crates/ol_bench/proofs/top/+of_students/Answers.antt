use Rattle.std.proofs.Common.{◌<◌, length, arith}
use Rattle.ol_io.proofs.Readings.{AreOfSince-then}
use Rattle.ol_bench.specs.Inputs.{after_taking, told_of}
use Rattle.ol_bench.proofs.Onward.{parts, is_work, student_taken}
use Rattle.ol_bench.proofs.top.+of_students.Goals as goal

pub returns-in_err-answer-2-clause-told : goal.returns-in_err-answer-2-clause-told
returns-in_err-answer-2-clause-told g t c =
    AreOfSince-then (g.S.Source.contents c.args.src.now) (g.S.Source.readings c.args.src.now)
    (g.S.Source.readings c.bytes_of-bytes.new.src) (g.S.Source.readings c.of_students.new.src)
    c.bytes_of-bytes.ensures.told (rw c.bytes_of-bytes.ensures.contents at c.of_students.ensures.told)

pub returns-clause-told : goal.returns-clause-told
returns-clause-told g t c =
    AreOfSince-then (g.S.Source.contents c.args.src.now) (g.S.Source.readings c.args.src.now)
    (g.S.Source.readings c.bytes_of-bytes.new.src) (g.S.Source.readings c.of_students.new.src)
    c.bytes_of-bytes.ensures.told (rw c.bytes_of-bytes.ensures.contents at c.of_students.ensures.told)

pub returns-clause-caused : goal.returns-clause-caused
returns-clause-caused g t c = λ files of.
    let a = c.in_ok-answer-2 in
    let e = c.bytes_of-bytes.ensures in
    let s = c.in_ok-student in
    let file = c.index-files-at.result in
    let old = g.S.Source.faults c.args.src.now in
    let mid = g.S.Source.faults c.bytes_of-bytes.new.src in
    let here : c.args.at < length c.args.files.now = grind (arith, c.requires.place, c.if-at-files.false) in
    let both = parts file files (g.S.Source.contents c.bytes_of-bytes.new.src)
    (g.S.Source.readings c.args.src.now) (g.S.Source.readings c.bytes_of-bytes.new.src)
    (g.S.Source.readings c.of_students.new.src) e.once c.of_students.ensures.told of in
    student_taken files old (g.S.Source.faults c.of_students.new.src)
    a.answer.text.items a.answer.end c.args.bounds c.args.inputs.now c.args.solution.now c.args.read.items
    c.args.files.now c.args.at file here c.index-files-at.is c.in_ok-more.more.items s.student mid
    (record {
      name = s.ensures.name;
      work = is_work (told_of files file) old mid c.bytes_of-bytes.result s.student.work s.ensures.work e.cause
          (e.whole files both.0) (e.longer files both.0);
    }) c.in_ok-more.ensures (a.ensures.caused (after_taking file files) both.1)
