use Rattle.std.proofs.Common.{◌≡◌, take}
use Rattle.ol_families.proofs.counting.moves_of.Given as goal

abbrev pub invariant-loop-k : goal.invariant-loop-k
invariant-loop-k l = l.moves.items ≡ take l.k l.at
