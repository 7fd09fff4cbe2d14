use Rattle.std.proofs.Common.{refl, ap, ◌∙◌}
use Rattle.ol_context.specs.Shapes.{value}
use Rattle.ol_readback.specs.Frames.{os}
use Rattle.ol_readback.proofs.Fits.{no_count}
use Rattle.ol_readback.proofs.fitting.count_at.Goals as goal

pub returns-then-not-is_empty : goal.returns-then-not-is_empty
returns-then-not-is_empty c =
    let s = c.in_ok-stripped.ensures in
    no_count (value c.args.values.now c.args.v)
    (value c.args.values.now c.in_ok-stripped.stripped.1) c.in_ok-stripped.stripped.0 s.is
    s.last (λ e. let f = (c.if-not-is_empty.ensures).1 e in absurd (cc))

pub returns : goal.returns
returns c =
    let s = c.in_ok-stripped.ensures in
    s.is ∙ ap (os c.in_ok-stripped.stripped.0) ((c.if-not-is_empty.ensures).0 refl)
