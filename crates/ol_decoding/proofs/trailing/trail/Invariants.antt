use Rattle.ol_context.specs.Shapes.{context_of}
use Rattle.ol_decoding.proofs.Trailed.{Trailing}
use Rattle.ol_decoding.proofs.trailing.trail.Given as goal

abbrev pub invariant-loop-next : goal.invariant-loop-next
invariant-loop-next l = Trailing l.net l.from (context_of l.initial.values l.fn.context) l.lines
    l.initial.values l.initial.text.items l.values l.context l.at l.left l.text.items

abbrev pub decreases-loop-next : goal.decreases-loop-next
decreases-loop-next l = l.left
