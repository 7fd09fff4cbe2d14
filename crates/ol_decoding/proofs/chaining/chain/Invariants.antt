use Rattle.std.proofs.Common.{◌-◌}
use Rattle.ol_context.specs.Shapes.{context_of}
use Rattle.ol_demand.proofs.OnChains.{Chaining}
use Rattle.ol_decoding.proofs.chaining.chain.Given as goal

abbrev pub invariant-loop-next : goal.invariant-loop-next
invariant-loop-next l = Chaining l.net l.from (context_of l.initial.values l.fn.question) l.initial.values l.values
    l.context l.at l.made l.most

abbrev pub decreases-loop-next : goal.decreases-loop-next
decreases-loop-next l = l.most - l.made
