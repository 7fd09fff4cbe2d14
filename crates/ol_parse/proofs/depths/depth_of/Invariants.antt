use Rattle.ol_parse.proofs.Deep.{IsDeep}
use Rattle.ol_parse.proofs.depths.depth_of.Given as goal

abbrev pub invariant-loop-op : goal.invariant-loop-op
invariant-loop-op l = IsDeep l.ops l.op-index l.done l.stack.items
