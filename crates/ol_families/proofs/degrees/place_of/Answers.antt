use Rattle.std.proofs.Common.{arith}
use Rattle.std.proofs.lemmas.Option.{slice_get_within}
use borrow.Author.Count.{below_more}
use Rattle.ol_families.specs.Tables.{rows_of}
use Rattle.ol_families.proofs.Alike.{is_here, not_here, length_rows}
use Rattle.ol_families.proofs.degrees.place_of.Goals as goal

pub returns-then-eq : goal.returns-then-eq
returns-then-eq c =
    is_here c.args.rows.now.items c.loop-k.k c.index.result.now c.as_slice.result.now c.args.row.now c.eq.result
    (omega arith) c.index.ensures c.as_slice.ensures.value c.eq.ensures c.if-eq.true

pub loop-k-preserved : goal.loop-k-preserved
loop-k-preserved c =
    below_more _ _ c.loop-k.invariant
    (not_here c.args.rows.now.items c.loop-k.k c.index.result.now c.as_slice.result.now c.args.row.now c.eq.result
    (omega arith) c.index.ensures c.as_slice.ensures.value c.eq.ensures c.if-eq.false)

pub returns : goal.returns
returns c = λ j e.
    let w = slice_get_within (rows_of c.args.rows.now.items) j c.args.row.now e in
    let m = length_rows c.args.rows.now.items in
    c.loop-k.invariant j (omega arith) e
