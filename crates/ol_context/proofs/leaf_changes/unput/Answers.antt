use Rattle.std.proofs.Common.{arith}
use Rattle.ol_context.proofs.LeafMoves.{goes, not_gone}
use Rattle.ol_context.proofs.leaf_changes.unput.Goals as goal

pub returns-then-len-eq0 : goal.returns-then-len-eq0
returns-then-len-eq0 c = λ vs ns. goes vs ns c.args.leaf.now.at c.args.leaf.now.around.items
    (omega (arith, c.args.leaf.now.around.ok.0, c.len.ensures, c.if-len-eq0.true))

pub returns-else-len-eq0 : goal.returns-else-len-eq0
returns-else-len-eq0 c = λ vs ns. not_gone vs ns c.args.leaf.now.at c.args.leaf.now.around.items
    (λ z. c.if-len-eq0.false (omega (arith, c.args.leaf.now.around.ok.0, c.len.ensures)))
