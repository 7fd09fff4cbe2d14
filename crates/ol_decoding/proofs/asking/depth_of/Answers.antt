-- A depth is counted from the place up: sums with 0 and with a successor.
use Rattle.std.proofs.Common.{◌≡◌, ℕ, suc, ◌+◌, ◌<◌, List, [], length, sym, ◌∙◌, subst, arith}
use Rattle.ol_context.specs.Contexts.{Level}
use Rattle.ol_readback.specs.Frames.{frame_at, frames_of}
use Rattle.ol_decoding.specs.Parts.{HasDepth}
use Rattle.ol_decoding.proofs.Reading.{parent_is, at_root, one_deeper}
use Rattle.ol_decoding.proofs.asking.depth_of.Goals as goal

no_values : List Level
no_values = []

zero_right : (d : ℕ) → d + 0 ≡ d
zero_right d = omega arith

zero_left : (d : ℕ) → d ≡ 0 + d
zero_left d = omega arith

suc_right : (d e : ℕ) → d + suc e ≡ d + 1 + e
suc_right d e = omega arith

pub index-frame-requires : goal.index-frame-requires
index-frame-requires c =
    let f = c.loop-parent.invariant.few in
    let a = c.requires.at in
    let b : c.loop-parent.here < length c.args.frames.now.items = omega arith in
    subst (λ (n : ℕ). c.loop-parent.here < n) (sym c.args.frames.now.ok.0) b

pub returns-in_default : goal.returns-in_default
returns-in_default c = λ vs.
    let f = c.loop-parent.invariant.few in
    let a = c.requires.at in
    let fs = c.args.frames.now.items in
    subst (λ d. HasDepth (frames_of vs fs) (frame_at (frames_of vs fs) c.args.at).parent d) (zero_right c.loop-parent.depth)
    (c.loop-parent.invariant.goes vs 0
    (at_root vs fs c.loop-parent.here c.index-frame.result.now (omega arith) c.index-frame.ensures c.in_default.is))

pub loop-parent-init : goal.loop-parent-init
loop-parent-init c = record {
  few = omega arith;
  goes = λ vs d h.
      let fs = c.args.frames.now.items in
      subst (λ e. HasDepth (frames_of vs fs) (frame_at (frames_of vs fs) c.args.at).parent e) (zero_left d) h;
}

pub loop-parent-smaller : goal.loop-parent-smaller
loop-parent-smaller c =
    let f = c.loop-parent.invariant.few in
    let a = c.requires.at in
    let fs = c.args.frames.now.items in
    c.requires.parents no_values c.loop-parent.here c.in-Some.parent
    (parent_is no_values fs c.loop-parent.here c.index-frame.result.now (omega arith) c.index-frame.ensures ∙ c.in-Some.is)

pub loop-parent-preserved : goal.loop-parent-preserved
loop-parent-preserved c =
    let f = c.loop-parent.invariant.few in
    let a = c.requires.at in
    let fs = c.args.frames.now.items in
    let p = c.requires.parents no_values c.loop-parent.here c.in-Some.parent
    (parent_is no_values fs c.loop-parent.here c.index-frame.result.now (omega arith) c.index-frame.ensures ∙ c.in-Some.is) in
    record {
      few = omega arith;
      goes = λ vs d h. subst (λ e. HasDepth (frames_of vs fs) (frame_at (frames_of vs fs) c.args.at).parent e)
          (suc_right c.loop-parent.depth d)
          (c.loop-parent.invariant.goes vs (suc d)
          (one_deeper vs fs c.loop-parent.here c.index-frame.result.now (omega arith) c.index-frame.ensures
          c.in-Some.parent d c.in-Some.is h));
    }

pub overflow_add-depth : goal.overflow_add-depth
overflow_add-depth c =
    let f = c.loop-parent.invariant.few in
    let a = c.requires.at in
    let fs = c.args.frames.now.items in
    let p = c.requires.parents no_values c.loop-parent.here c.in-Some.parent
    (parent_is no_values fs c.loop-parent.here c.index-frame.result.now (omega arith) c.index-frame.ensures ∙ c.in-Some.is) in
    omega (arith, p, f, c.ranges.at.fits)
