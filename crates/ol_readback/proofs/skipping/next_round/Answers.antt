use Rattle.std.proofs.Common.{length, ℕ, Option, refl, ap, subst, arith}
use Rattle.std.proofs.lemmas.Option.{slice_get_read}
use Rattle.ol_readback.specs.Frames.{Frame, frame_at, frames_of}
use Rattle.ol_readback.specs.Skipping.{SkipsTo, stays}
use Rattle.ol_readback.proofs.FrameLists.{frame_is}
use Rattle.ol_readback.proofs.skipping.next_round.Goals as goal

pub returns-then-k-len : goal.returns-then-k-len
returns-then-k-len c vs =
    let l = c.len.ensures in
    let t = c.if-k-len.true in
    c.requires.skips vs c.args.i c.index.result.now
    (slice_get_read c.args.skips.now.items
    (length c.args.skips.now.items) c.args.i c.index.result.now refl (omega arith) c.index.ensures)

pub returns : goal.returns
returns c vs =
    let fs = c.args.frames.now.items in
    let e = frame_is vs fs c.args.i c.index-2.result.now c.requires.at c.index-2.ensures in
    subst (λ (o : Option ℕ). SkipsTo (frames_of vs fs)
    (frame_at (frames_of vs fs) c.args.i).parent o) (ap (λ (f : Frame). f.parent) e) stays
