use Rattle.std.proofs.Common.{◌-◌}
use Rattle.ol_demand.proofs.OnChains.{Onward}
use Rattle.ol_demand.proofs.chaining.chain.Given as goal

abbrev pub invariant-loop-next : goal.invariant-loop-next
invariant-loop-next l = Onward l.net l.initial.values l.fn.walker l.values l.context l.at l.made l.most

abbrev pub decreases-loop-next : goal.decreases-loop-next
decreases-loop-next l = l.most - l.made
