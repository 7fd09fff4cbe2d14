use Rattle.std.proofs.Common.{sym, subst}
use Rattle.ol_explain.specs.Wanted.{AreThose, empty}
use Rattle.ol_explain.specs.Fields.{GoesOn}
use Rattle.ol_explain.proofs.wanting.wanted.Goals as goal

pub loop-number-init : goal.loop-number-init
loop-number-init c = subst (λ bs. AreThose (GoesOn c.args.field c.args.end c.args.read.now) 0 bs) (sym c.new-bytes.ensures.items) empty
