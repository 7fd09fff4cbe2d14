use Rattle.std.proofs.Common.{ap, ◌∙◌}
use Rattle.ol_context.specs.Shapes.{value}
use Rattle.ol_readback.specs.Frames.{os}
use Rattle.ol_readback.proofs.Fits.{os_o}
use Rattle.ol_readback.proofs.fitting.strip.Goals as goal

pub loop-w-preserved : goal.loop-w-preserved
loop-w-preserved c =
    let h = c.in-O.ensures in
    (h.held, c.loop-w.invariant.1 ∙ ap (os c.loop-w.n) h.is ∙ os_o c.loop-w.n (value c.args.values.now c.in-O.w))
