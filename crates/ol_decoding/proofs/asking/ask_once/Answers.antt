-- The last index of a list is below its length.
use Rattle.std.proofs.Common.{◌≡◌, ℕ, ◌+◌, ◌<◌, List, length, map, sym, subst, arith}
use Rattle.std.proofs.lemmas.Result.{err_from_is_err_and}
use Rattle.ol_context.specs.Asked.{asked}
use Rattle.ol_context.specs.Shapes.{value, context_of}
use Rattle.ol_readback.specs.Frames.{Frame, frames_of, ParentsFirst}
use Rattle.ol_readback.specs.Heads.{answer_of, IsMatched}
use Rattle.ol_readback.proofs.FrameLists.{frames_more, held_frames_more, held_this, port_this, count_frames}
use Rattle.ol_rules.proofs.OnTheWay.{step_few}
use Rattle.ol_demand.proofs.Questions.{matched_last, known_head}
use Rattle.ol_decoding.specs.Chaining.{IsEndOf, IsHeldEnd}
use Rattle.ol_decoding.specs.declared.chaining.End.TheVariants as end
use Rattle.ol_decoding.proofs.Asked.{end_at, met_step, spent_once, never_once, long_once, left_once}
use Rattle.ol_decoding.proofs.asking.ask_once.Goals as goal

last_below : (i n : ℕ) → i + 1 ≡ n → i < n
last_below i n e = omega arith

pub index-requires : goal.index-requires
index-requires c = subst (λ (n : ℕ). c.args.asked.now.at < n) (sym c.args.asked.now.frames.now.ok.0)
    (last_below c.args.asked.now.at (length c.args.asked.now.frames.now.items) c.requires.asked.last)

pub end_of-requires-clause-port : goal.end_of-requires-clause-port
end_of-requires-clause-port c = port_this c.args.net.now.free c.args.asked.now.frames.now.items c.args.asked.now.at
    c.index.result.now c.requires.asked.list.ports (omega (arith, c.requires.asked.last)) c.index.ensures

pub end_of-requires-clause-held : goal.end_of-requires-clause-held
end_of-requires-clause-held c = held_this c.args.values.now c.args.asked.now.frames.now.items c.args.asked.now.at
    c.index.result.now c.requires.asked.list.held (omega (arith, c.requires.asked.last)) c.index.ensures

pub returns-in_err-end-clause-reply : goal.returns-in_err-end-clause-reply
returns-in_err-end-clause-reply c =
    let p = err_from_is_err_and c.from_residual.result c.from_residual.ensures.1 in rw p.1 tt

pub returns-in_err-end-clause-kept : goal.returns-in_err-end-clause-kept
returns-in_err-end-clause-kept c =
    let p = err_from_is_err_and c.from_residual.result c.from_residual.ensures.1 in rw p.1 tt

pub rewrite-requires-clause-pair : goal.rewrite-requires-clause-pair
rewrite-requires-clause-pair c =
    (subst (λ e. IsEndOf c.args.net.now c.index.result.now.port
    (asked (map (value c.args.values.now) c.index.result.now.levels) c.args.lams) c.end_of.new.values e)
    c.in-Met.is c.in_ok-end.ensures.ends).0

pub returns-in_err-rewrite-in-Met-clause-reply : goal.returns-in_err-rewrite-in-Met-clause-reply
returns-in_err-rewrite-in-Met-clause-reply c =
    let p = err_from_is_err_and c.from_residual-in_err-rewrite-in-Met.result c.from_residual-in_err-rewrite-in-Met.ensures.1 in
    rw p.1 tt

pub returns-in_err-rewrite-in-Met-clause-kept : goal.returns-in_err-rewrite-in-Met-clause-kept
returns-in_err-rewrite-in-Met-clause-kept c =
    let p = err_from_is_err_and c.from_residual-in_err-rewrite-in-Met.result c.from_residual-in_err-rewrite-in-Met.ensures.1 in
    rw p.1 tt

pub returns-then-left-eq0-clause-reply : goal.returns-then-left-eq0-clause-reply
returns-then-left-eq0-clause-reply c =
    let vs = c.args.values.now in
    let us = c.end_of.new.values in
    let fs = c.args.asked.now.frames.now.items in
    let f = c.index.result.now in
    let ends = c.in_ok-end.ensures.ends in
    let at = end_at vs fs c.args.asked.now.at f c.requires.asked.last c.index.ensures c.args.net.now c.args.lams us
    c.in_ok-end.end (end.Met c.in-Met.node) ends c.in-Met.is in
    let pair = (subst (λ e. IsEndOf c.args.net.now f.port (asked (map (value vs) f.levels) c.args.lams) us e)
    c.in-Met.is ends).0 in
    spent_once c.args.net.now (frames_of vs fs) c.args.lams c.args.left us (omega (arith, c.if-left-eq0.true))
    c.in-Met.node pair at

pub returns-in_ok-rewrite-in-Met-clause-reply : goal.returns-in_ok-rewrite-in-Met-clause-reply
returns-in_ok-rewrite-in-Met-clause-reply c =
    let vs = c.args.values.now in
    let us = c.end_of.new.values in
    let fs = c.args.asked.now.frames.now.items in
    let at = end_at vs fs c.args.asked.now.at c.index.result.now c.requires.asked.last c.index.ensures
    c.args.net.now c.args.lams us c.in_ok-end.end (end.Met c.in-Met.node) c.in_ok-end.ensures.ends c.in-Met.is in
    let t = c.in_ok-rewrite-in-Met.ensures.steps in (
      omega (arith, c.if-left-eq0.false),
      step_few c.args.net.now c.rewrite.new.net c.in-Met.node.0 t.0 t.1,
      t.1.step.rewrites.free_ports,
      λ front s z. met_step c.args.net.now c.rewrite.new.net s c.args.lams c.in-Met.node us t.0 (at front s z) t.1,
    )

pub leave_by-requires-clause-at : goal.leave_by-requires-clause-at
leave_by-requires-clause-at c = last_below c.args.asked.now.at (length c.args.asked.now.frames.now.items)
    c.requires.asked.last

pub leave_by-requires-clause-skips : goal.leave_by-requires-clause-skips
leave_by-requires-clause-skips c = c.requires.asked.skipped

pub leave_by-requires-clause-context : goal.leave_by-requires-clause-context
leave_by-requires-clause-context c = subst (λ e. IsHeldEnd c.end_of.new.values e) c.in-Left.is c.in_ok-end.ensures.held

pub leave_by-requires-clause-parents : goal.leave_by-requires-clause-parents
leave_by-requires-clause-parents c =
    subst ParentsFirst (sym (frames_more c.args.values.now c.end_of.new.values c.args.asked.now.frames.now.items
    c.end_of.ensures.extends c.requires.asked.list.held)) c.requires.asked.list.parents

pub leave_by-requires-clause-frames : goal.leave_by-requires-clause-frames
leave_by-requires-clause-frames c = held_frames_more c.args.values.now c.end_of.new.values
    c.args.asked.now.frames.now.items c.end_of.ensures.extends c.requires.asked.list.held

pub returns-in_err-head-in-Left-clause-reply : goal.returns-in_err-head-in-Left-clause-reply
returns-in_err-head-in-Left-clause-reply c =
    let p = err_from_is_err_and c.from_residual-in_err-head-in-Left.result c.from_residual-in_err-head-in-Left.ensures.1 in
    rw p.1 tt

pub returns-in_err-head-in-Left-clause-kept : goal.returns-in_err-head-in-Left-clause-kept
returns-in_err-head-in-Left-clause-kept c =
    let p = err_from_is_err_and c.from_residual-in_err-head-in-Left.result c.from_residual-in_err-head-in-Left.ensures.1 in
    rw p.1 tt

pub returns-in_ok-head-in-Left-clause-reply : goal.returns-in_ok-head-in-Left-clause-reply
returns-in_ok-head-in-Left-clause-reply c =
    let vs = c.args.values.now in
    let us = c.end_of.new.values in
    let fs = c.args.asked.now.frames.now.items in
    let f = c.index.result.now in
    let n = c.args.lams in
    let q = c.in-Left.port in
    let X = context_of us c.in-Left.context in
    let ends = c.in_ok-end.ensures.ends in
    let at = end_at vs fs c.args.asked.now.at f c.requires.asked.last c.index.ensures c.args.net.now n us
    c.in_ok-end.end (end.Left q c.in-Left.context) ends c.in-Left.is in
    let a = answer_of us c.in_ok-head-in-Left.head in
    let m = subst (λ (F : List Frame). IsMatched F c.args.asked.now.at n q X a)
    (frames_more vs us fs c.end_of.ensures.extends c.requires.asked.list.held) c.in_ok-head-in-Left.ensures.answer in
    let count = count_frames vs fs in
    let here = subst (λ e. IsEndOf c.args.net.now f.port (asked (map (value vs) f.levels) n) us e) c.in-Left.is ends in
    let known = known_head c.args.net.now c.is_net.ensures.net (frames_of vs fs) c.args.asked.now.at n q X f.port _ us
    c.in_ok-head-in-Left.head c.requires.asked.list.parents (omega (arith, c.requires.asked.last, count)) here m in
    left_once c.args.net.now (frames_of vs fs) n c.args.left us c.in_ok-head-in-Left.head q X at
    (λ front s z. matched_last vs fs c.args.asked.now.at f c.requires.asked.last c.index.ensures front s z n q X a m)
    c.in_ok-head-in-Left.ensures.held known

pub returns-then-lams-nodes-clause-reply : goal.returns-then-lams-nodes-clause-reply
returns-then-lams-nodes-clause-reply c =
    let vs = c.args.values.now in
    let us = c.end_of.new.values in
    let fs = c.args.asked.now.frames.now.items in
    let at = end_at vs fs c.args.asked.now.at c.index.result.now c.requires.asked.last c.index.ensures
    c.args.net.now c.args.lams us c.in_ok-end.end end.Undefined c.in_ok-end.ensures.ends c.in-Undefined.is in
    never_once c.args.net.now (frames_of vs fs) c.args.lams c.args.left us
    (omega (arith, c.if-lams-nodes.true, c.nodes.ensures.nodes)) at

pub returns-in-Budget-clause-reply : goal.returns-in-Budget-clause-reply
returns-in-Budget-clause-reply c =
    let vs = c.args.values.now in
    let us = c.end_of.new.values in
    let fs = c.args.asked.now.frames.now.items in
    let at = end_at vs fs c.args.asked.now.at c.index.result.now c.requires.asked.last c.index.ensures
    c.args.net.now c.args.lams us c.in_ok-end.end end.Budget c.in_ok-end.ensures.ends c.in-Budget.is in
    long_once c.args.net.now (frames_of vs fs) c.args.lams c.args.left us at
