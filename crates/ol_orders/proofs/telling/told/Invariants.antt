use Rattle.std.proofs.Common.{take}
use Rattle.ol_orders.proofs.Steps.{IsSoFar}
use Rattle.ol_orders.proofs.telling.told.Given as goal

-- the entries so far are told
abbrev pub invariant-loop-k : goal.invariant-loop-k
invariant-loop-k l = IsSoFar l.net l.replay (take l.k l.journal) (take l.k l.waves) l.text.items
