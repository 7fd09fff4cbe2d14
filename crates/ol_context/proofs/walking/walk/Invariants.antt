use Rattle.std.proofs.Common.{◌-◌}
use Rattle.ol_context.specs.Shapes.{context_of}
use Rattle.ol_context.proofs.Walked.{Walking}
use Rattle.ol_context.proofs.walking.walk.Given as goal

abbrev pub invariant-loop-next : goal.invariant-loop-next
invariant-loop-next l = Walking l.net l.from
    (context_of l.initial.values l.fn.context) l.initial.values l.values l.context l.at l.made l.edges

abbrev pub decreases-loop-next : goal.decreases-loop-next
decreases-loop-next l = l.edges - l.made
