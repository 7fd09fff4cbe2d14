use Rattle.std.proofs.Common.{ap, ◌∙◌}
use Rattle.ol_context.specs.Shapes.{value}
use Rattle.ol_readback.specs.Frames.{os}
use Rattle.ol_readback.proofs.Fits.{no_mark}
use Rattle.ol_readback.proofs.fitting.binder_at.Goals as goal

pub returns-then-not-is_star : goal.returns-then-not-is_star
returns-then-not-is_star c =
    let s = c.in_ok-stripped.ensures in
    no_mark (value c.args.values.now c.args.v)
    (value c.args.values.now c.in_ok-stripped.stripped.1) c.in_ok-stripped.stripped.0 s.is
    s.last c.if-not-is_star.ensures

pub returns : goal.returns
returns c =
    let s = c.in_ok-stripped.ensures in
    let h = c.if-not-is_star.ensures in
    (h.0, s.is ∙ ap (os c.in_ok-stripped.stripped.0) h.1)
