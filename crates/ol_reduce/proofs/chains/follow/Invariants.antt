use Rattle.ol_reduce.specs.Following.{IsValueAfter}
use Rattle.ol_reduce.proofs.chains.follow.Given as goal

abbrev pub invariant-loop-step : goal.invariant-loop-step
invariant-loop-step l = IsValueAfter l.words l.first l.step l.at
