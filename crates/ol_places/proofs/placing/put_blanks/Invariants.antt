use Rattle.std.proofs.Common.{◌≡◌, ◌++◌, take}
use Rattle.ol_places.specs.Places.{blanks}
use Rattle.ol_places.proofs.placing.put_blanks.Given as goal

abbrev pub invariant-loop-k : goal.invariant-loop-k
invariant-loop-k l = l.text.items ≡ l.fn.text.items ++ blanks (take l.k l.front)
