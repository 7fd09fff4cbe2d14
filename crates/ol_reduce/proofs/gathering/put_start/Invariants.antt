use Rattle.std.proofs.Common.{◌≡◌, vec_len}
use Rattle.ol_reduce.proofs.Starting.{AllStart}
use Rattle.ol_reduce.proofs.gathering.put_start.Given as goal

abbrev pub invariant-loop-cell : goal.invariant-loop-cell
invariant-loop-cell l = AllStart l.pool l.cell l.hands.items × (vec_len l.hands ≡ vec_len l.fn.hands)
