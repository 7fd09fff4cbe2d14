use Rattle.std.proofs.Common.{◌≡◌, ◌≤◌}
use Rattle.ol_wire.specs.Weights.{sum_below}
use Rattle.ol_wire.specs.Layout.{start_cell}
use Rattle.ol_wire.specs.Credit.{active_at}
use Rattle.ol_wire.proofs.net_words.count_active.Given as goal

abbrev pub invariant-loop-cell : goal.invariant-loop-cell
invariant-loop-cell l = (l.live ≡ sum_below l.cell (λ c. active_at l.words (start_cell l.parts c))) × (l.live ≤ l.cell)
