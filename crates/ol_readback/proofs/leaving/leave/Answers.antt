use Rattle.ol_context.specs.Shapes.{context_of}
use Rattle.ol_readback.specs.Frames.{frames_of}
use Rattle.ol_readback.proofs.Skips.{no_skips}
use Rattle.ol_readback.proofs.One.{left_no_head, left_no_budget}
use Rattle.ol_readback.proofs.leaving.leave.Goals as goal

pub leave_by-requires-clause-skips : goal.leave_by-requires-clause-skips
leave_by-requires-clause-skips c = no_skips c.args.frames.now.items c.new-skips.result.items c.new-skips.ensures.items

pub returns-clause-no_head : goal.returns-clause-no_head
returns-clause-no_head c =
    left_no_head (frames_of c.args.values.now c.args.frames.now.items) c.args.at c.args.lams
    c.args.port (context_of c.args.values.now c.args.context.now) c.args.values.now
    c.in_ok-left.left c.in_ok-left.ensures.answer

pub returns-clause-no_budget : goal.returns-clause-no_budget
returns-clause-no_budget c =
    left_no_budget (frames_of c.args.values.now c.args.frames.now.items) c.args.at c.args.lams
    c.args.port (context_of c.args.values.now c.args.context.now) c.args.values.now
    c.in_ok-left.left c.in_ok-left.ensures.answer
