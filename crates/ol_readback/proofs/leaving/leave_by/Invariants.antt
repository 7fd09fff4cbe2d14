use Rattle.ol_context.specs.Shapes.{context_of}
use Rattle.ol_readback.specs.Frames.{frames_of}
use Rattle.ol_readback.proofs.Climbing.{Climbing}
use Rattle.ol_readback.proofs.leaving.leave_by.Given as goal

abbrev pub invariant-loop-fit : goal.invariant-loop-fit
invariant-loop-fit l = Climbing (frames_of l.values l.asked.frames.now.items) l.asked.at l.lams
    l.port (context_of l.values l.context) l.i l.abstractions

abbrev pub decreases-loop-fit : goal.decreases-loop-fit
decreases-loop-fit l = l.i
