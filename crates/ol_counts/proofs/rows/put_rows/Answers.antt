use Rattle.std.proofs.Common.{◌++◌, ap, ◌∙◌}
use Rattle.ol_counts.proofs.Tallying.{rows_on}
use Rattle.ol_counts.proofs.rows.put_rows.Goals as goal

pub loop-k-preserved : goal.loop-k-preserved
loop-k-preserved c =
    rows_on c.args.tallies.now c.loop-k.k c.tally_at.result c.args.text.now.items c.loop-k.text.items
    c.put.new.text.items c.tally_at.ensures c.loop-k.invariant
    (c.in_ok-put.ensures
    ∙ ap (λ t. c.loop-k.text.items ++ t) (c.deref.ensures.value ∙ c.in_ok-line.ensures))
