use Rattle.std.proofs.Common.{length, ◌-◌, ◌≤◌}
use Rattle.ol_orders.specs.Replays.{IsReplay}
use Rattle.ol_explain.proofs.Ways.{Way}
use Rattle.ol_explain.proofs.following.follow.Given as goal

-- the lines so far are followed
abbrev pub invariant-loop-at : goal.invariant-loop-at
invariant-loop-at l = record {
  way : Way l.form l.net l.text l.weighing.net l.weighing.numbers.bases.items l.weighing.weights.items l.replay.run.journal l.at;
  replay : IsReplay l.net l.replay;
  most : length l.replay.run.journal ≤ l.most;
}

abbrev pub decreases-loop-at : goal.decreases-loop-at
decreases-loop-at l = length l.text - l.at
