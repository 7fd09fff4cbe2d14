use Rattle.std.proofs.Common.{List, ℕ, map, sym, ap, ◌∙◌, subst, arith}
use Rattle.ol_net.specs.Numbered.{net_of}
use Rattle.ol_context.specs.Shapes.{value, AreHeld, context_of}
use Rattle.ol_context.specs.declared.answers.OpenWalk.TheVariants.{Exit, Undefined, Budget}
use Rattle.ol_readback.specs.Frames.{Frame, frame_at, frames_of, ParentsFirst}
use Rattle.ol_readback.specs.Heads.{answer_of, IsMatched}
use Rattle.ol_readback.proofs.FrameLists.{frame_is, held_this, port_this, frames_more, held_frames_more}
use Rattle.ol_readback.proofs.Trying.{walk_tried, exit_left, exit_lost, budget_spent, budget_lost, all_lost}
use Rattle.ol_readback.proofs.asking.ask_by_walk.Goals as goal

pub walk_open-requires-clause-port : goal.walk_open-requires-clause-port
walk_open-requires-clause-port g c = port_this c.args.net.now.free c.args.asked.now.frames.now.items
    c.args.asked.now.at c.index-frame.result.now c.requires.ports c.requires.at c.index-frame.ensures

pub walk_open-requires-clause-held : goal.walk_open-requires-clause-held
walk_open-requires-clause-held g c =
    subst (λ (ns : List ℕ). AreHeld c.args.values.now ns) (sym c.in_ok-levels.ensures)
    (held_this c.args.values.now c.args.asked.now.frames.now.items c.args.asked.now.at
    c.index-frame.result.now c.requires.frames c.requires.at c.index-frame.ensures)

pub leave_by-requires-clause-parents : goal.leave_by-requires-clause-parents
leave_by-requires-clause-parents g c = subst ParentsFirst
    (sym (frames_more c.args.values.now c.walk_open.new.values c.args.asked.now.frames.now.items
    c.walk_open.ensures.extends c.requires.frames)) c.requires.parents

pub leave_by-requires-clause-frames : goal.leave_by-requires-clause-frames
leave_by-requires-clause-frames g c = held_frames_more c.args.values.now c.walk_open.new.values
    c.args.asked.now.frames.now.items c.walk_open.ensures.extends c.requires.frames

pub returns-in_ok-left-in-Exit-clause-answer : goal.returns-in_ok-left-in-Exit-clause-answer
returns-in_ok-left-in-Exit-clause-answer g c =
    let e = frame_is c.args.values.now c.args.asked.now.frames.now.items c.args.asked.now.at
    c.index-frame.result.now c.requires.at c.index-frame.ensures in
    let t = walk_tried (net_of c.args.net.now)
    (frame_at (frames_of c.args.values.now c.args.asked.now.frames.now.items)
    c.args.asked.now.at) c.index-frame.result.now.port
    (map (value c.args.values.now) c.in_ok-levels.levels.items) c.args.edges
    c.walk_open.new.values c.in_ok-walked.walked
    (Exit c.in-Exit.lams c.in-Exit.port c.in-Exit.context c.in-Exit.crossings)
    c.in_ok-walked.ensures.exit c.in_ok-walked.ensures.undefined c.in_ok-walked.ensures.budget
    c.in-Exit.is (ap (λ (f : Frame). f.port) e)
    (ap (λ (f : Frame). f.levels) e ∙ ap (map (value c.args.values.now)) (sym c.in_ok-levels.ensures)) in
    let m = subst (λ (F : List Frame). IsMatched F c.args.asked.now.at c.in-Exit.lams c.in-Exit.port
    (context_of c.walk_open.new.values c.in-Exit.context)
    (answer_of c.walk_open.new.values c.in_ok-left-in-Exit.left))
    (frames_more c.args.values.now c.walk_open.new.values c.args.asked.now.frames.now.items
    c.walk_open.ensures.extends c.requires.frames) c.in_ok-left-in-Exit.ensures.answer in
    exit_left (net_of c.args.net.now) c.is_net.ensures.net
    (frames_of c.args.values.now c.args.asked.now.frames.now.items) c.args.asked.now.at
    c.args.edges c.walk_open.new.values c.in-Exit.lams c.in-Exit.port c.nodes-top.result
    c.in-Exit.crossings c.in-Exit.context
    (answer_of c.walk_open.new.values c.in_ok-left-in-Exit.left)
    (omega (arith, c.if-lams-top.false)) c.nodes-top.ensures.nodes t m

pub returns-then-lams-top-clause-answer : goal.returns-then-lams-top-clause-answer
returns-then-lams-top-clause-answer g c =
    let e = frame_is c.args.values.now c.args.asked.now.frames.now.items c.args.asked.now.at
    c.index-frame.result.now c.requires.at c.index-frame.ensures in
    let t = walk_tried (net_of c.args.net.now)
    (frame_at (frames_of c.args.values.now c.args.asked.now.frames.now.items)
    c.args.asked.now.at) c.index-frame.result.now.port
    (map (value c.args.values.now) c.in_ok-levels.levels.items) c.args.edges
    c.walk_open.new.values c.in_ok-walked.walked
    (Exit c.in-Exit.lams c.in-Exit.port c.in-Exit.context c.in-Exit.crossings)
    c.in_ok-walked.ensures.exit c.in_ok-walked.ensures.undefined c.in_ok-walked.ensures.budget
    c.in-Exit.is (ap (λ (f : Frame). f.port) e)
    (ap (λ (f : Frame). f.levels) e ∙ ap (map (value c.args.values.now)) (sym c.in_ok-levels.ensures)) in
    exit_lost (net_of c.args.net.now) c.is_net.ensures.net
    (frames_of c.args.values.now c.args.asked.now.frames.now.items) c.args.asked.now.at
    c.args.edges c.walk_open.new.values c.in-Exit.lams c.in-Exit.port c.nodes-top.result
    c.in-Exit.crossings c.in-Exit.context (omega (arith, c.if-lams-top.true)) c.nodes-top.ensures.nodes t

pub returns-else-lams-top-2-clause-answer : goal.returns-else-lams-top-2-clause-answer
returns-else-lams-top-2-clause-answer g c =
    let e = frame_is c.args.values.now c.args.asked.now.frames.now.items c.args.asked.now.at
    c.index-frame.result.now c.requires.at c.index-frame.ensures in
    let t = walk_tried (net_of c.args.net.now)
    (frame_at (frames_of c.args.values.now c.args.asked.now.frames.now.items)
    c.args.asked.now.at) c.index-frame.result.now.port
    (map (value c.args.values.now) c.in_ok-levels.levels.items) c.args.edges
    c.walk_open.new.values c.in_ok-walked.walked (Budget c.in-Budget.lams)
    c.in_ok-walked.ensures.exit c.in_ok-walked.ensures.undefined c.in_ok-walked.ensures.budget
    c.in-Budget.is (ap (λ (f : Frame). f.port) e)
    (ap (λ (f : Frame). f.levels) e ∙ ap (map (value c.args.values.now)) (sym c.in_ok-levels.ensures)) in
    budget_spent (net_of c.args.net.now) c.is_net.ensures.net
    (frames_of c.args.values.now c.args.asked.now.frames.now.items) c.args.asked.now.at
    c.args.edges c.walk_open.new.values c.in-Budget.lams c.nodes-top.result
    (omega (arith, c.if-lams-top-2.false)) c.nodes-top.ensures.nodes t

pub returns-then-lams-top-2-clause-answer : goal.returns-then-lams-top-2-clause-answer
returns-then-lams-top-2-clause-answer g c =
    let e = frame_is c.args.values.now c.args.asked.now.frames.now.items c.args.asked.now.at
    c.index-frame.result.now c.requires.at c.index-frame.ensures in
    let t = walk_tried (net_of c.args.net.now)
    (frame_at (frames_of c.args.values.now c.args.asked.now.frames.now.items)
    c.args.asked.now.at) c.index-frame.result.now.port
    (map (value c.args.values.now) c.in_ok-levels.levels.items) c.args.edges
    c.walk_open.new.values c.in_ok-walked.walked (Budget c.in-Budget.lams)
    c.in_ok-walked.ensures.exit c.in_ok-walked.ensures.undefined c.in_ok-walked.ensures.budget
    c.in-Budget.is (ap (λ (f : Frame). f.port) e)
    (ap (λ (f : Frame). f.levels) e ∙ ap (map (value c.args.values.now)) (sym c.in_ok-levels.ensures)) in
    budget_lost (net_of c.args.net.now) c.is_net.ensures.net
    (frames_of c.args.values.now c.args.asked.now.frames.now.items) c.args.asked.now.at
    c.args.edges c.walk_open.new.values c.in-Budget.lams c.nodes-top.result
    (omega (arith, c.if-lams-top-2.true)) c.nodes-top.ensures.nodes t

pub returns-in-Undefined-clause-answer : goal.returns-in-Undefined-clause-answer
returns-in-Undefined-clause-answer g c =
    let e = frame_is c.args.values.now c.args.asked.now.frames.now.items c.args.asked.now.at
    c.index-frame.result.now c.requires.at c.index-frame.ensures in
    let t = walk_tried (net_of c.args.net.now)
    (frame_at (frames_of c.args.values.now c.args.asked.now.frames.now.items)
    c.args.asked.now.at) c.index-frame.result.now.port
    (map (value c.args.values.now) c.in_ok-levels.levels.items) c.args.edges
    c.walk_open.new.values c.in_ok-walked.walked (Undefined c.in-Undefined.lams c.in-Undefined.crossings)
    c.in_ok-walked.ensures.exit c.in_ok-walked.ensures.undefined c.in_ok-walked.ensures.budget
    c.in-Undefined.is (ap (λ (f : Frame). f.port) e)
    (ap (λ (f : Frame). f.levels) e ∙ ap (map (value c.args.values.now)) (sym c.in_ok-levels.ensures)) in
    all_lost (net_of c.args.net.now) c.is_net.ensures.net
    (frames_of c.args.values.now c.args.asked.now.frames.now.items) c.args.asked.now.at
    c.args.edges c.walk_open.new.values c.in-Undefined.lams c.in-Undefined.crossings t
