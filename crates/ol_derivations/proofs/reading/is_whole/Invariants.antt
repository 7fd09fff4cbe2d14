use Rattle.std.proofs.Common.{take}
use Rattle.ol_readback.specs.Terms.{HasAllHeads}
use Rattle.ol_derivations.proofs.reading.is_whole.Given as goal

abbrev pub invariant-loop-place : goal.invariant-loop-place
invariant-loop-place l = HasAllHeads (take l.place l.tree)
