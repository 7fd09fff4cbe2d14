use Rattle.std.proofs.Common.{◌≡◌, ◌++◌}
use Rattle.ol_counts.specs.CountsOfWaves.{rows_text}
use Rattle.ol_counts.proofs.rows.put_rows.Given as goal

-- the lines so far are put
abbrev pub invariant-loop-k : goal.invariant-loop-k
invariant-loop-k l = l.text.items ≡ l.fn.text.items ++ rows_text l.tallies l.k
