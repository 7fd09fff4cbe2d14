use Rattle.std.proofs.Common.{ap, ◌∙◌, add-one}
use Rattle.ol_context.specs.Contexts.{o}
use Rattle.ol_context.proofs.Shapes.{extends_refl, extends_trans}
use Rattle.ol_decoding.proofs.chaining.mark.Goals as goal

pub put_o-requires : goal.put_o-requires
put_o-requires c = c.loop-k.invariant.1.held

pub loop-k-init : goal.loop-k-init
loop-k-init c = (extends_refl c.args.values.now, c.empty-mark.ensures)

pub loop-k-preserved : goal.loop-k-preserved
loop-k-preserved c =
    let r = c.in_ok-next.ensures.new in
    let x = extends_trans c.args.values.now c.loop-k.values c.put_o.new.self c.loop-k.invariant.0 c.put_o.ensures.extends in
    (x, rw add-one (record { held = r.held; is = r.is ∙ ap o c.loop-k.invariant.1.is }))
