use Rattle.std.proofs.Common.{◌-◌, ◌≤◌, length}
use Rattle.ol_orders.specs.Played.{ArePairs}
use Rattle.ol_orders.proofs.RoundByRound.{IsInPlay}
use Rattle.ol_orders.proofs.playing.play.Given as goal

-- whole rounds so far, and the pairs of the next one
abbrev pub invariant-loop-alloc : goal.invariant-loop-alloc
invariant-loop-alloc l = record {
  play : IsInPlay l.net l.replay;
  pairs : ArePairs l.replay.net l.pairs.items;
  within : length l.replay.run.journal ≤ l.fuel.most;
}

abbrev pub decreases-loop-alloc : goal.decreases-loop-alloc
decreases-loop-alloc l = l.fuel.most - length l.replay.run.journal
