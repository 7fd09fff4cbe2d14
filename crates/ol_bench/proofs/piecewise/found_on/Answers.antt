use Rattle.std.proofs.Common.{◌+◌, ◌++◌, ◌≤◌, ◌∙◌, Ok, Err, None, Some, inl, inr, length, take, drop, subst, ap, arith, length-append}
use Rattle.ol_io.specs.declared.calls.ReadAll.TheVariants as read
use Rattle.ol_bench.proofs.Judging.{answered_with, judged_at_end, judged_fault, judged_with, piece_given, read_short}
use Rattle.ol_bench.proofs.piecewise.found_on.Goals as goal

pub returns-in-End-clause-judged : goal.returns-in-End-clause-judged
returns-in-End-clause-judged g c =
    let i = c.reading.invariant in
    let e = c.in-End.ensures in
    judged_at_end c.args.net.now (g.S.Source.left c.args.src.now) (g.S.Source.left c.reading.src)
    (g.S.Source.left c.read.new.self) (g.S.Source.readings c.args.src.now) (g.S.Source.readings c.reading.src)
    (g.S.Source.readings c.read.new.self) c.reading.given c.reading.checker i.read
    (g.S.Source.ended c.read.new.self) (Ok c.finish.result) e.bytes.1 e.readings e.ended (
      subst (λ n. n ≤ 402653184) i.read.counted i.within,
      inr (e.ended, c.finish.ensures.found c.args.net.now i.read.front i.read.fed),
    ) (λ z. absurd (cc))

pub returns-in-Failed-clause-judged : goal.returns-in-Failed-clause-judged
returns-in-Failed-clause-judged g c =
    let i = c.reading.invariant in
    let e = c.in-Failed.ensures in
    judged_fault c.args.net.now (g.S.Source.left c.args.src.now) (g.S.Source.left c.reading.src)
    (g.S.Source.left c.read.new.self) (g.S.Source.readings c.args.src.now) (g.S.Source.readings c.reading.src)
    (g.S.Source.readings c.read.new.self) c.reading.given c.reading.checker i.read
    (g.S.Source.ended c.read.new.self) (Err read.Fault) e.readings e.ended tt (λ z. absurd (cc))

pub returns-then-given-most-clause-judged : goal.returns-then-given-most-clause-judged
returns-then-given-most-clause-judged g c =
    let i = c.reading.invariant in
    let e = c.in-Bytes.ensures in
    let within : c.in-Bytes.count ≤ length c.read.new.buf =
    (let same = c.read.auto.buf in let w = e.within.1 in omega (arith, same, w)) in
    let r = read_short c.piece_after-asked.result c.in-Bytes.count c.reading.buf c.read.new.buf e.within.1 within in
    let piece : length (take c.in-Bytes.count c.read.new.buf) ≤ 65536 =
    (let m = r.0 in let n = r.1 in let p = c.piece_after-asked.ensures.piece in omega (arith, m, n, p)) in
    let n = r.1 in
    let least = e.within.0 in
    judged_with c.args.net.now (g.S.Source.left c.args.src.now) (g.S.Source.left c.reading.src)
    (g.S.Source.left c.read.new.self) (g.S.Source.readings c.args.src.now) (g.S.Source.readings c.reading.src)
    (g.S.Source.readings c.read.new.self) c.reading.given c.reading.checker i.read
    (g.S.Source.ended c.read.new.self) (Err read.TooLong) (take c.in-Bytes.count c.read.new.buf)
    e.bytes e.readings e.ended piece tt
    (λ z. (
      (let past = c.if-given-most.true in let w = i.within in omega (arith, past, w)),
      omega (arith, n, least),
    ))

pub returns-in-Err-clause-judged : goal.returns-in-Err-clause-judged
returns-in-Err-clause-judged g c =
    let i = c.reading.invariant in
    let e = c.in-Bytes.ensures in
    let within : c.in-Bytes.count ≤ length c.read.new.buf =
    (let same = c.read.auto.buf in let w = e.within.1 in omega (arith, same, w)) in
    let r = read_short c.piece_after-asked.result c.in-Bytes.count c.reading.buf c.read.new.buf e.within.1 within in
    let piece : length (take c.in-Bytes.count c.read.new.buf) ≤ 65536 =
    (let m = r.0 in let n = r.1 in let p = c.piece_after-asked.ensures.piece in omega (arith, m, n, p)) in
    judged_with c.args.net.now (g.S.Source.left c.args.src.now) (g.S.Source.left c.reading.src)
    (g.S.Source.left c.read.new.self) (g.S.Source.readings c.args.src.now) (g.S.Source.readings c.reading.src)
    (g.S.Source.readings c.read.new.self) c.reading.given c.reading.checker i.read
    (g.S.Source.ended c.read.new.self) (Err read.NoMemory) (take c.in-Bytes.count c.read.new.buf)
    e.bytes e.readings e.ended piece tt (λ z. absurd (cc))

pub returns-in-Ok-Some-clause-judged : goal.returns-in-Ok-Some-clause-judged
returns-in-Ok-Some-clause-judged g c =
    let i = c.reading.invariant in
    let e = c.in-Bytes.ensures in
    let within : c.in-Bytes.count ≤ length c.read.new.buf =
    (let same = c.read.auto.buf in let w = e.within.1 in omega (arith, same, w)) in
    let r = read_short c.piece_after-asked.result c.in-Bytes.count c.reading.buf c.read.new.buf e.within.1 within in
    let piece : length (take c.in-Bytes.count c.read.new.buf) ≤ 65536 =
    (let m = r.0 in let n = r.1 in let p = c.piece_after-asked.ensures.piece in omega (arith, m, n, p)) in
    let short : length (i.read.front ++ take c.in-Bytes.count c.read.new.buf) ≤ 402653184 =
    (let past = c.if-given-most.false in let w = i.within in
    let more = c.piece_after-asked.ensures.within (omega (arith, past, w)) in let m = r.0 in let n = r.1 in
    let q = i.read.counted in let l = length-append i.read.front (take c.in-Bytes.count c.read.new.buf) in
    omega (arith, more, m, n, q, l)) in
    judged_with c.args.net.now (g.S.Source.left c.args.src.now) (g.S.Source.left c.reading.src)
    (g.S.Source.left c.read.new.self) (g.S.Source.readings c.args.src.now) (g.S.Source.readings c.reading.src)
    (g.S.Source.readings c.read.new.self) c.reading.given c.reading.checker i.read
    (g.S.Source.ended c.read.new.self) (Ok c.in-Ok-Some.found) (take c.in-Bytes.count c.read.new.buf)
    e.bytes e.readings e.ended piece (
      short,
      inl (answered_with c.args.net.now i.read.front c.read.new.buf (drop c.piece_after-asked.result c.reading.buf)
          c.in-Bytes.count c.in-Ok-Some.field-0 (Some c.in-Ok-Some.found) c.feed.new.self within
          (c.in-Ok-Some.ensures.answered c.args.net.now i.read.front i.read.fed) c.in-Ok-Some.field-0-is),
    )
    (λ z. absurd (cc))

pub reading-preserved : goal.reading-preserved
reading-preserved g c =
    let i = c.reading.invariant in
    let e = c.in-Bytes.ensures in
    let within : c.in-Bytes.count ≤ length c.read.new.buf =
    (let same = c.read.auto.buf in let w = e.within.1 in omega (arith, same, w)) in
    let r = read_short c.piece_after-asked.result c.in-Bytes.count c.reading.buf c.read.new.buf e.within.1 within in
    record {
      within = (let past = c.if-given-most.false in let w = i.within in
          let more = c.piece_after-asked.ensures.within (omega (arith, past, w)) in let m = r.0 in
          omega (arith, more, m));
      ready = e.ready;
      given = e.given ∙ ap (λ n. n + c.in-Bytes.count) i.given;
      cause = e.cause ∙ i.cause;
      read = piece_given c.args.net.now (g.S.Source.left c.args.src.now) (g.S.Source.left c.reading.src)
          (g.S.Source.left c.read.new.self) (g.S.Source.readings c.args.src.now)
          (g.S.Source.readings c.reading.src) (g.S.Source.readings c.read.new.self) c.reading.given
          c.reading.checker c.feed.new.self (take c.in-Bytes.count c.read.new.buf) c.in-Bytes.count i.read
          e.bytes e.readings r.1
          (answered_with c.args.net.now i.read.front c.read.new.buf (drop c.piece_after-asked.result c.reading.buf)
          c.in-Bytes.count c.in-Ok-None.field-0 None c.feed.new.self within
          (c.in-Ok-None.ensures.answered c.args.net.now i.read.front i.read.fed) c.in-Ok-None.field-0-is);
    }
