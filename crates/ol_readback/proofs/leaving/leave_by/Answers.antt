use Rattle.std.proofs.Common.{◌≡◌, ℕ, ◌∷◌, [], ◌+◌, ◌^◌, ◌<◌, List, Option, map, length, refl, sym}
use Rattle.std.proofs.Common.{ap, ◌∙◌, subst, arith, add-one}
use Rattle.std.proofs.lemmas.List.{length-map}
use Rattle.ol_context.specs.Shapes.{value, AreHeld, context_of}
use Rattle.ol_context.proofs.ValueLists.{held_append}
use Rattle.ol_readback.specs.Frames.{Frame, frame_of, frames_of}
use Rattle.ol_readback.specs.Matching.{NoFit}
use Rattle.ol_readback.specs.Fitting.{IsFitOf}
use Rattle.ol_readback.specs.Heads.{answer_of}
use Rattle.ol_readback.proofs.Climbing.{Climbing, climb_start, found_is, levels_found}
use Rattle.ol_readback.proofs.Skips.{skip_below, Arrived, climb_to, few_at, none_few}
use Rattle.ol_readback.proofs.FrameLists.{frame_is, held_this, count_frames}
use Rattle.ol_readback.proofs.leaving.leave_by.Goals as goal

pub loop-fit-init : goal.loop-fit-init
loop-fit-init c =
    let n = count_frames c.args.values.now c.args.asked.now.frames.now.items in
    climb_start (frames_of c.args.values.now c.args.asked.now.frames.now.items) c.args.asked.now.at
    c.args.lams c.args.port (context_of c.args.values.now c.args.context.now)
    (omega (arith, c.requires.at)) c.ranges.lams.fits

pub fits_frame-requires-clause-levels : goal.fits_frame-requires-clause-levels
fits_frame-requires-clause-levels c =
    let n = count_frames c.args.values.now c.args.asked.now.frames.now.items in
    held_this c.args.values.now c.args.asked.now.frames.now.items c.loop-fit.i
    c.index-frame.result.now c.requires.frames (omega (arith, c.loop-fit.invariant.below)) c.index-frame.ensures

pub overflow_add-result : goal.overflow_add-result
overflow_add-result c =
    let h = subst (λ (r : Option (ℕ × ℕ)).
    IsFitOf (frame_of c.args.values.now c.index-frame.result.now) c.loop-fit.abstractions
    c.args.port (context_of c.args.values.now c.args.context.now) r) c.in-Some.is c.in_ok-fit.ensures in
    omega (arith, h.1.1.below, c.loop-fit.invariant.few)

pub returns-in-Some-clause-answer : goal.returns-in-Some-clause-answer
returns-in-Some-clause-answer c =
    let vs = c.args.values.now in
    let fs = c.args.asked.now.frames.now.items in
    let f = c.index-frame.result.now in
    let X = context_of vs c.args.context.now in
    let n = count_frames vs fs in
    let h = subst (λ (r : Option (ℕ × ℕ)).
    IsFitOf (frame_of vs f) c.loop-fit.abstractions c.args.port X r) c.in-Some.is c.in_ok-fit.ensures in
    let g : value vs c.level-last.result ≡ X
    (length (map (value vs) f.levels)) = c.level-last.ensures.is
    ∙ ap X (c.len.ensures ∙ sym (length-map f.levels (value vs))) in
    found_is (frames_of vs fs) c.args.asked.now.at c.args.lams c.args.port X c.loop-fit.i
    c.loop-fit.abstractions c.loop-fit.invariant (frame_of vs f)
    (frame_is vs fs c.loop-fit.i f (omega (arith, c.loop-fit.invariant.below)) c.index-frame.ensures)
    c.in-Some.found h (c.in-Some.found.0 + 1) (add-one c.in-Some.found.0) (map (value vs) c.in_ok-levels-in-Some.levels)
    (λ d z. levels_found vs f.levels c.in_ok-levels-in-Some.levels c.level-last.result
    c.in-Some.found.0 c.in-Some.found.1 c.loop-fit.abstractions d X z c.in_ok-levels-in-Some.ensures g)

pub returns-in-Some-clause-held : goal.returns-in-Some-clause-held
returns-in-Some-clause-held c =
    let vs = c.args.values.now in
    let fs = c.args.asked.now.frames.now.items in
    let f = c.index-frame.result.now in
    let n = count_frames vs fs in
    subst (λ (ns : List ℕ). AreHeld vs ns) (sym c.in_ok-levels-in-Some.ensures)
    (held_append vs f.levels (c.level-last.result ∷ [])
    (held_this vs fs c.loop-fit.i f c.requires.frames
    (omega (arith, c.loop-fit.invariant.below)) c.index-frame.ensures) (c.level-last.ensures.held, tt))

pub index-requires : goal.index-requires
index-requires c =
    let vs = c.args.values.now in
    let fs = c.args.asked.now.frames.now.items in
    let n = count_frames vs fs in
    let b = skip_below (frames_of vs fs) c.requires.parents c.loop-fit.i (c.next_round.ensures vs)
    (c.requires.parents c.loop-fit.i) c.in-Some-next_round.round c.in-Some-next_round.is in
    omega (arith, c.loop-fit.invariant.below, c.args.asked.now.frames.now.ok.0)

pub loop-fit-smaller : goal.loop-fit-smaller
loop-fit-smaller c =
    let vs = c.args.values.now in
    let fs = c.args.asked.now.frames.now.items in
    skip_below (frames_of vs fs) c.requires.parents c.loop-fit.i (c.next_round.ensures vs)
    (c.requires.parents c.loop-fit.i) c.in-Some-next_round.round c.in-Some-next_round.is

pub loop-fit-preserved : goal.loop-fit-preserved
loop-fit-preserved c =
    let vs = c.args.values.now in
    let fs = c.args.asked.now.frames.now.items in
    let f = c.index-frame.result.now in
    let X = context_of vs c.args.context.now in
    let n = count_frames vs fs in
    let e = frame_is vs fs c.loop-fit.i f (omega (arith, c.loop-fit.invariant.below)) c.index-frame.ensures in
    let b = skip_below (frames_of vs fs) c.requires.parents c.loop-fit.i (c.next_round.ensures vs)
    (c.requires.parents c.loop-fit.i) c.in-Some-next_round.round c.in-Some-next_round.is in
    let p = frame_is vs fs c.in-Some-next_round.round c.index.result.now
    (omega (arith, c.loop-fit.invariant.below)) c.index.ensures in
    let w : c.index.result.now.lams < 2 ^ 32 = omega arith in
    let h = subst (λ (r : Option (ℕ × ℕ)).
    IsFitOf (frame_of vs f) c.loop-fit.abstractions c.args.port X r) c.in-None.is c.in_ok-fit.ensures in
    let y = climb_to (frames_of vs fs) c.args.asked.now.at c.args.lams c.args.port X
    c.requires.parents c.loop-fit.i c.loop-fit.abstractions c.loop-fit.invariant
    (subst (λ (f : Frame). NoFit f c.loop-fit.abstractions c.args.port X) (sym e) h) (c.next_round.ensures vs) refl
    (few_at (frames_of vs fs) c.next_round.result c.in-Some-next_round.round c.in-Some-next_round.is
    (subst (λ (f : Frame). f.lams < 2 ^ 32) (sym p) w)) in
    subst (λ (l : ℕ). Climbing (frames_of vs fs) c.args.asked.now.at c.args.lams c.args.port X
    c.in-Some-next_round.round l) (ap (λ (f : Frame). f.lams) p)
    (subst (Arrived (frames_of vs fs) c.args.asked.now.at c.args.lams c.args.port X
    c.requires.parents) c.in-Some-next_round.is y)

pub returns-in-None-next_round-clause-answer : goal.returns-in-None-next_round-clause-answer
returns-in-None-next_round-clause-answer c =
    let vs = c.args.values.now in
    let fs = c.args.asked.now.frames.now.items in
    let f = c.index-frame.result.now in
    let X = context_of vs c.args.context.now in
    let n = count_frames vs fs in
    let e = frame_is vs fs c.loop-fit.i f (omega (arith, c.loop-fit.invariant.below)) c.index-frame.ensures in
    let h = subst (λ (r : Option (ℕ × ℕ)).
    IsFitOf (frame_of vs f) c.loop-fit.abstractions c.args.port X r) c.in-None.is c.in_ok-fit.ensures in
    let y = climb_to (frames_of vs fs) c.args.asked.now.at c.args.lams c.args.port X
    c.requires.parents c.loop-fit.i c.loop-fit.abstractions c.loop-fit.invariant
    (subst (λ (f : Frame). NoFit f c.loop-fit.abstractions c.args.port X) (sym e) h)
    (c.next_round.ensures vs) refl (none_few (frames_of vs fs) c.next_round.result c.in-None-next_round.is) in
    subst (Arrived (frames_of vs fs) c.args.asked.now.at c.args.lams c.args.port X
    c.requires.parents) c.in-None-next_round.is y
    (answer_of vs c.in_ok-last-in-None-next_round.last) c.in_ok-last-in-None-next_round.ensures.answer
