use Rattle.std.proofs.Common.{refl, subst}
use Rattle.ol_context.proofs.Shapes.{extends_refl, extends_trans}
use Rattle.ol_decoding.proofs.Chosen.{mark_more}
use Rattle.ol_decoding.proofs.questioning.mark_of.Goals as goal

pub loop-k-init : goal.loop-k-init
loop-k-init c = (c.empty-mark.ensures, extends_refl c.args.values.now)

pub put_o-requires : goal.put_o-requires
put_o-requires c = c.loop-k.invariant.0.held

pub loop-k-preserved : goal.loop-k-preserved
loop-k-preserved c = (
  mark_more c.loop-k.values c.put_o.new.self c.loop-k.mark _ c.loop-k.k c.loop-k.invariant.0 c.in_ok-mark.ensures.new,
  extends_trans c.args.values.now c.loop-k.values c.put_o.new.self c.loop-k.invariant.1 c.put_o.ensures.extends,
)
