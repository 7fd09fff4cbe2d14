use Rattle.std.proofs.Common.{List, ℕ, map, refl, sym, ap, ◌∙◌, subst, arith}
use Rattle.ol_net.specs.Numbered.{net_of}
use Rattle.ol_context.specs.Shapes.{value, AreHeld, context_of}
use Rattle.ol_context.specs.declared.answers.OpenWalk.TheVariants.{Exit, Undefined, Budget}
use Rattle.ol_readback.specs.Frames.{Frame, frame_at, frames_of, ParentsFirst}
use Rattle.ol_readback.specs.Heads.{answer_of, IsMatched}
use Rattle.ol_readback.proofs.FrameLists.{frame_is, held_this, port_this, frames_more, held_frames_more}
use Rattle.ol_readback.proofs.Trying.{walk_tried, exit_left, exit_lost, budget_spent, budget_lost, all_lost}
use Rattle.ol_counts.specs.Crossings.{HasCrossings}
use Rattle.ol_counts.proofs.ReadingCounted.{crossings_left}
use Rattle.ol_counts.proofs.crossings.head_walked.Goals as goal

pub walk_open-requires-clause-port : goal.walk_open-requires-clause-port
walk_open-requires-clause-port g c = port_this c.args.net.now.free c.args.asked.now.frames.now.items
    c.args.asked.now.at c.index-frame.result.now c.requires.ports c.requires.at c.index-frame.ensures

pub walk_open-requires-clause-held : goal.walk_open-requires-clause-held
walk_open-requires-clause-held g c =
    subst (λ (ns : List ℕ). AreHeld c.args.values.now ns) (sym c.in_ok-levels.ensures)
    (held_this c.args.values.now c.args.asked.now.frames.now.items c.args.asked.now.at
    c.index-frame.result.now c.requires.frames c.requires.at c.index-frame.ensures)

pub leave_by-requires-clause-parents : goal.leave_by-requires-clause-parents
leave_by-requires-clause-parents g c = subst ParentsFirst
    (sym (frames_more c.args.values.now c.walk_open.new.values c.args.asked.now.frames.now.items
    c.walk_open.ensures.extends c.requires.frames)) c.requires.parents

pub leave_by-requires-clause-frames : goal.leave_by-requires-clause-frames
leave_by-requires-clause-frames g c = held_frames_more c.args.values.now c.walk_open.new.values
    c.args.asked.now.frames.now.items c.walk_open.ensures.extends c.requires.frames

pub returns-in_ok-head-in-Exit-clause-walked : goal.returns-in_ok-head-in-Exit-clause-walked
returns-in_ok-head-in-Exit-clause-walked g c =
    let e = frame_is c.args.values.now c.args.asked.now.frames.now.items c.args.asked.now.at
    c.index-frame.result.now c.requires.at c.index-frame.ensures in
    let t = walk_tried (net_of c.args.net.now)
    (frame_at (frames_of c.args.values.now c.args.asked.now.frames.now.items)
    c.args.asked.now.at) c.index-frame.result.now.port
    (map (value c.args.values.now) c.in_ok-levels.levels.items) c.args.edges
    c.walk_open.new.values c.in_ok-walked.walked
    (Exit c.in-Exit.lams c.in-Exit.port c.in-Exit.context c.in-Exit.crossings)
    c.in_ok-walked.ensures.exit c.in_ok-walked.ensures.undefined c.in_ok-walked.ensures.budget
    c.in-Exit.is (ap (λ (f : Frame). f.port) e)
    (ap (λ (f : Frame). f.levels) e ∙ ap (map (value c.args.values.now)) (sym c.in_ok-levels.ensures)) in
    let m = subst (λ (F : List Frame). IsMatched F c.args.asked.now.at c.in-Exit.lams c.in-Exit.port
    (context_of c.walk_open.new.values c.in-Exit.context)
    (answer_of c.walk_open.new.values c.in_ok-head-in-Exit.head))
    (frames_more c.args.values.now c.walk_open.new.values c.args.asked.now.frames.now.items
    c.walk_open.ensures.extends c.requires.frames) c.in_ok-head-in-Exit.ensures.answer in
    record {
      head = exit_left (net_of c.args.net.now) c.is_net.ensures.net
          (frames_of c.args.values.now c.args.asked.now.frames.now.items) c.args.asked.now.at
          c.args.edges c.walk_open.new.values c.in-Exit.lams c.in-Exit.port c.nodes-top.result
          c.in-Exit.crossings c.in-Exit.context
          (answer_of c.walk_open.new.values c.in_ok-head-in-Exit.head)
          (omega (arith, c.if-lams-top.false)) c.nodes-top.ensures.nodes t m;
      crossings = subst (λ (n : ℕ). HasCrossings (net_of c.args.net.now)
          (frames_of c.args.values.now c.args.asked.now.frames.now.items) c.args.asked.now.at c.args.edges
          (answer_of c.walk_open.new.values c.in_ok-head-in-Exit.head) n) (sym c.crossings_if-made.ensures)
          (crossings_left (net_of c.args.net.now) (frames_of c.args.values.now c.args.asked.now.frames.now.items)
          c.args.asked.now.at c.args.edges c.walk_open.new.values c.in-Exit.lams c.in-Exit.port
          (context_of c.walk_open.new.values c.in-Exit.context) c.in-Exit.crossings c.in_ok-head-in-Exit.head m
          ((t.exits c.in-Exit.lams c.in-Exit.port (context_of c.walk_open.new.values c.in-Exit.context)
          c.in-Exit.crossings).0 (refl, refl, refl, refl)).0);
    }

pub returns-then-lams-top-clause-walked : goal.returns-then-lams-top-clause-walked
returns-then-lams-top-clause-walked g c =
    let e = frame_is c.args.values.now c.args.asked.now.frames.now.items c.args.asked.now.at
    c.index-frame.result.now c.requires.at c.index-frame.ensures in
    let t = walk_tried (net_of c.args.net.now)
    (frame_at (frames_of c.args.values.now c.args.asked.now.frames.now.items)
    c.args.asked.now.at) c.index-frame.result.now.port
    (map (value c.args.values.now) c.in_ok-levels.levels.items) c.args.edges
    c.walk_open.new.values c.in_ok-walked.walked
    (Exit c.in-Exit.lams c.in-Exit.port c.in-Exit.context c.in-Exit.crossings)
    c.in_ok-walked.ensures.exit c.in_ok-walked.ensures.undefined c.in_ok-walked.ensures.budget
    c.in-Exit.is (ap (λ (f : Frame). f.port) e)
    (ap (λ (f : Frame). f.levels) e ∙ ap (map (value c.args.values.now)) (sym c.in_ok-levels.ensures)) in
    record {
      head = exit_lost (net_of c.args.net.now) c.is_net.ensures.net
          (frames_of c.args.values.now c.args.asked.now.frames.now.items) c.args.asked.now.at
          c.args.edges c.walk_open.new.values c.in-Exit.lams c.in-Exit.port c.nodes-top.result
          c.in-Exit.crossings c.in-Exit.context (omega (arith, c.if-lams-top.true)) c.nodes-top.ensures.nodes t;
      crossings = refl;
    }

pub returns-else-lams-top-2-clause-walked : goal.returns-else-lams-top-2-clause-walked
returns-else-lams-top-2-clause-walked g c =
    let e = frame_is c.args.values.now c.args.asked.now.frames.now.items c.args.asked.now.at
    c.index-frame.result.now c.requires.at c.index-frame.ensures in
    let t = walk_tried (net_of c.args.net.now)
    (frame_at (frames_of c.args.values.now c.args.asked.now.frames.now.items)
    c.args.asked.now.at) c.index-frame.result.now.port
    (map (value c.args.values.now) c.in_ok-levels.levels.items) c.args.edges
    c.walk_open.new.values c.in_ok-walked.walked (Budget c.in-Budget.lams)
    c.in_ok-walked.ensures.exit c.in_ok-walked.ensures.undefined c.in_ok-walked.ensures.budget
    c.in-Budget.is (ap (λ (f : Frame). f.port) e)
    (ap (λ (f : Frame). f.levels) e ∙ ap (map (value c.args.values.now)) (sym c.in_ok-levels.ensures)) in
    record {
      head = budget_spent (net_of c.args.net.now) c.is_net.ensures.net
          (frames_of c.args.values.now c.args.asked.now.frames.now.items) c.args.asked.now.at
          c.args.edges c.walk_open.new.values c.in-Budget.lams c.nodes-top.result
          (omega (arith, c.if-lams-top-2.false)) c.nodes-top.ensures.nodes t;
      crossings = refl;
    }

pub returns-then-lams-top-2-clause-walked : goal.returns-then-lams-top-2-clause-walked
returns-then-lams-top-2-clause-walked g c =
    let e = frame_is c.args.values.now c.args.asked.now.frames.now.items c.args.asked.now.at
    c.index-frame.result.now c.requires.at c.index-frame.ensures in
    let t = walk_tried (net_of c.args.net.now)
    (frame_at (frames_of c.args.values.now c.args.asked.now.frames.now.items)
    c.args.asked.now.at) c.index-frame.result.now.port
    (map (value c.args.values.now) c.in_ok-levels.levels.items) c.args.edges
    c.walk_open.new.values c.in_ok-walked.walked (Budget c.in-Budget.lams)
    c.in_ok-walked.ensures.exit c.in_ok-walked.ensures.undefined c.in_ok-walked.ensures.budget
    c.in-Budget.is (ap (λ (f : Frame). f.port) e)
    (ap (λ (f : Frame). f.levels) e ∙ ap (map (value c.args.values.now)) (sym c.in_ok-levels.ensures)) in
    record {
      head = budget_lost (net_of c.args.net.now) c.is_net.ensures.net
          (frames_of c.args.values.now c.args.asked.now.frames.now.items) c.args.asked.now.at
          c.args.edges c.walk_open.new.values c.in-Budget.lams c.nodes-top.result
          (omega (arith, c.if-lams-top-2.true)) c.nodes-top.ensures.nodes t;
      crossings = refl;
    }

pub returns-in-Undefined-clause-walked : goal.returns-in-Undefined-clause-walked
returns-in-Undefined-clause-walked g c =
    let e = frame_is c.args.values.now c.args.asked.now.frames.now.items c.args.asked.now.at
    c.index-frame.result.now c.requires.at c.index-frame.ensures in
    let t = walk_tried (net_of c.args.net.now)
    (frame_at (frames_of c.args.values.now c.args.asked.now.frames.now.items)
    c.args.asked.now.at) c.index-frame.result.now.port
    (map (value c.args.values.now) c.in_ok-levels.levels.items) c.args.edges
    c.walk_open.new.values c.in_ok-walked.walked (Undefined c.in-Undefined.lams c.in-Undefined.crossings)
    c.in_ok-walked.ensures.exit c.in_ok-walked.ensures.undefined c.in_ok-walked.ensures.budget
    c.in-Undefined.is (ap (λ (f : Frame). f.port) e)
    (ap (λ (f : Frame). f.levels) e ∙ ap (map (value c.args.values.now)) (sym c.in_ok-levels.ensures)) in
    record {
      head = all_lost (net_of c.args.net.now) c.is_net.ensures.net
          (frames_of c.args.values.now c.args.asked.now.frames.now.items) c.args.asked.now.at
          c.args.edges c.walk_open.new.values c.in-Undefined.lams c.in-Undefined.crossings t;
      crossings = refl;
    }
