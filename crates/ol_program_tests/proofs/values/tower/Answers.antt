use Rattle.ol_context.proofs.Shapes.{extends_refl, extends_trans}
use Rattle.ol_program_tests.proofs.values.tower.Goals as goal

pub loop-init : goal.loop-init
loop-init c = (extends_refl c.args.values.now, c.requires)

pub loop-preserved : goal.loop-preserved
loop-preserved c = (
  extends_trans c.args.values.now c.loop.values c.put_o.new.self
      c.loop.invariant.0 c.put_o.ensures.extends,
  c.in_ok-top.ensures.new.held,
)
