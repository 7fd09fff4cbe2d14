use Rattle.ol_context.specs.Shapes.{context_of}
use Rattle.ol_readback.proofs.Fits.{name_of}
use Rattle.ol_readback.proofs.fitting.is_name.Goals as goal

pub returns : goal.returns
returns c = name_of c.args.port (context_of c.args.values.now c.args.context.now) c.in_ok-args.args
    c.if-port-lt1.false c.in_ok-args.ensures
