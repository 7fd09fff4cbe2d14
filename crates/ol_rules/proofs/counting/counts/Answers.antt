use Rattle.std.proofs.Common.{◌∙◌, sym, ap, arith}
use Rattle.std.proofs.lemmas.List.{take_all}
use Rattle.ol_rules.specs.Counting.{counts_of}
use Rattle.ol_rules.proofs.EntryCounts.{more_counted, have_room}
use Rattle.ol_rules.proofs.counting.counts.Goals as goal

pub counted-told-requires : goal.counted-told-requires
counted-told-requires c = have_room c.args.j.now c.loop-k.k c.loop-k.told
    (omega (arith, c.loop-k-test.true, c.len-k-end.ensures)) c.loop-k.invariant
    (omega (arith, c.loop-k-test.true, c.len-k-end.type_inv))

pub loop-k-preserved : goal.loop-k-preserved
loop-k-preserved c = c.counted-told.ensures
    ∙ more_counted c.args.j.now c.loop-k.k c.entry-entry.result c.loop-k.told
    (omega (arith, c.loop-k-test.true, c.len-k-end.ensures)) c.entry-entry.ensures c.loop-k.invariant

pub returns : goal.returns
returns c = c.loop-k.invariant ∙ ap counts_of
    (take_all c.loop-k.k c.args.j.now (omega (arith, c.loop-k-test.false, c.len-k-end.ensures)))
