use Rattle.std.proofs.Common.{ℕ, List, map, subst}
use Rattle.ol_context.specs.Shapes.{value, context_of}
use Rattle.ol_readback.specs.Frames.{frame_of}
use Rattle.ol_readback.specs.Fitting.{IsFit}
use Rattle.ol_readback.proofs.Climbing.{fit_of}
use Rattle.ol_readback.proofs.leaving.fits_frame.Goals as goal

pub returns : goal.returns
returns c =
    let vs = c.args.values.now in
    let X = context_of vs c.args.context.now in
    fit_of (frame_of vs c.args.frame.now) c.args.lams c.args.port X c.in_ok-fit.fit c.if-frame-port.false
    (subst (λ (ns : List ℕ). IsFit (map (value vs) ns) c.args.lams X c.in_ok-fit.fit)
    c.levels.view_is c.in_ok-fit.ensures)
