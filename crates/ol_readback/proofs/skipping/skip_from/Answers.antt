use Rattle.std.proofs.Common.{◌≡◌, ℕ, Option, Some, None, refl, sym, ap, subst, arith}
use Rattle.ol_readback.specs.Frames.{Frame, frames_of}
use Rattle.ol_readback.specs.Skipping.{SkipsTo, stays, over}
use Rattle.ol_readback.proofs.FrameLists.{frame_is}
use Rattle.ol_readback.proofs.skipping.skip_from.Goals as goal

pub returns-in_default : goal.returns-in_default
returns-in_default c vs = subst (λ (p : Option ℕ).
    SkipsTo (frames_of vs c.args.frames.now.items) p None) (no_one c.args.parent c.in_default.not-Some) stays
  where
    no_one : (p : Option ℕ) → ((k : ℕ) → p ≡ Some k → ⊥) → None ≡ p
    no_one None h = refl
    no_one (Some k) h = absurd (h k refl)

pub returns-then-index-gt0 : goal.returns-then-index-gt0
returns-then-index-gt0 c vs = subst (λ (p : Option ℕ).
    SkipsTo (frames_of vs c.args.frames.now.items) p (Some c.in-Some.p)) (sym c.in-Some.is) stays

pub returns : goal.returns
returns c vs =
    let fs = c.args.frames.now.items in
    let e = frame_is vs fs c.in-Some.p c.index.result.now
    (c.requires.parent c.in-Some.p c.in-Some.is) c.index.ensures in
    let z = ap (λ (f : Frame). f.lams) e in
    let b = c.if-index-gt0.false in
    subst (λ (p : Option ℕ). SkipsTo (frames_of vs fs) p c.next_round.result) (sym c.in-Some.is)
    (over (omega arith) (c.next_round.ensures vs))
