use Rattle.std.proofs.Common.{arith}
use Rattle.ol_explain.proofs.Breaks.{header_ten, whole_header, header_begins_so}
use Rattle.ol_explain.proofs.wanting.is_header.Goals as goal

pub returns-then-read-ne10-clause-not : goal.returns-then-read-ne10-clause-not
returns-then-read-ne10-clause-not c f h =
    let n = header_ten c.args.read.now h in
    let d = c.if-read-ne10.true in
    omega arith

pub returns-clause-so : goal.returns-clause-so
returns-clause-so c t = whole_header c.args.read.now (let d = c.if-read-ne10.false in omega arith) (c.header_begins.ensures.so t)

pub returns-clause-not : goal.returns-clause-not
returns-clause-not c f h = c.header_begins.ensures.not f (header_begins_so c.args.read.now h)
