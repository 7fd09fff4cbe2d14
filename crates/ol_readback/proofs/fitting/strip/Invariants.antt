use Rattle.std.proofs.Common.{◌≡◌, ◌<◌, length}
use Rattle.ol_context.specs.Shapes.{value}
use Rattle.ol_readback.specs.Frames.{os}
use Rattle.ol_readback.proofs.fitting.strip.Given as goal

abbrev pub invariant-loop-w : goal.invariant-loop-w
invariant-loop-w l = (l.at < length l.values) × (value l.values l.fn.v ≡ os l.n (value l.values l.at))

abbrev pub decreases-loop-w : goal.decreases-loop-w
decreases-loop-w l = l.at
