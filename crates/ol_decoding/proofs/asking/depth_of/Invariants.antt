use Rattle.std.proofs.Common.{ℕ, ◌+◌, ◌≤◌, List}
use Rattle.ol_context.specs.Contexts.{Level}
use Rattle.ol_readback.specs.Frames.{frame_at, frames_of}
use Rattle.ol_decoding.specs.Parts.{HasDepth}
use Rattle.ol_decoding.proofs.asking.depth_of.Given as goal

abbrev pub invariant-loop-parent : goal.invariant-loop-parent
invariant-loop-parent l = record {
  few : l.depth + l.here ≤ l.at;
  goes : (vs : List Level) (d : ℕ) →
      HasDepth (frames_of vs l.frames.items) (frame_at (frames_of vs l.frames.items) l.here).parent d →
      HasDepth (frames_of vs l.frames.items) (frame_at (frames_of vs l.frames.items) l.at).parent (l.depth + d);
}

abbrev pub decreases-loop-parent : goal.decreases-loop-parent
decreases-loop-parent l = l.here
