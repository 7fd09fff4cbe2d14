use Rattle.std.proofs.Common.{arith}
use Rattle.ol_io.proofs.Readings.{reads_more}
use Rattle.ol_io.proofs.calls.read_on.Goals as goal

pub returns-then-count-most-clause-hands : goal.returns-then-count-most-clause-hands
returns-then-count-most-clause-hands g c =
    let e = c.in-Bytes.ensures in
    let i = c.reading.invariant in
    reads_more (g.S.Source.left c.args.src.now) (g.S.Source.left c.reading.src)
    (g.S.Source.left c.read.new.self) (g.S.Source.given c.reading.src)
    (g.S.Source.given c.read.new.self) (g.S.Source.ended c.read.new.self)
    (g.S.Source.readings c.args.src.now) (g.S.Source.readings c.reading.src)
    (g.S.Source.readings c.read.new.self) c.reading.bytes.items c.read.new.buf c.in-Bytes.count _ tt
    i.bytes e.bytes i.readings e.readings e.ended i.given e.given
    (let same = c.read.auto.buf in let within = e.within.1 in omega (arith, same, within))

pub returns-then-is_err-clause-hands : goal.returns-then-is_err-clause-hands
returns-then-is_err-clause-hands g c =
    let e = c.in-Bytes.ensures in
    let i = c.reading.invariant in
    reads_more (g.S.Source.left c.args.src.now) (g.S.Source.left c.reading.src)
    (g.S.Source.left c.read.new.self) (g.S.Source.given c.reading.src)
    (g.S.Source.given c.read.new.self) (g.S.Source.ended c.read.new.self)
    (g.S.Source.readings c.args.src.now) (g.S.Source.readings c.reading.src)
    (g.S.Source.readings c.read.new.self) c.reading.bytes.items c.read.new.buf c.in-Bytes.count _ tt
    i.bytes e.bytes i.readings e.readings e.ended i.given e.given
    (let same = c.read.auto.buf in let within = e.within.1 in omega (arith, same, within))
