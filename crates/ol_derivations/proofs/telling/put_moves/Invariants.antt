use Rattle.std.proofs.Common.{◌≡◌, ◌++◌, take}
use Rattle.std.specs.List.{flat_map}
use Rattle.std.specs.Fmt.{decimal}
use Rattle.ol_derivations.proofs.telling.put_moves.Given as goal

abbrev pub invariant-loop-k : goal.invariant-loop-k
invariant-loop-k l = l.text.items ≡ l.fn.text.items ++ flat_map decimal (take l.k l.at)
