use Rattle.std.proofs.Common.{◌≡◌, ◌++◌}
use Rattle.ol_derivations.specs.PlacesOfPaths.{opened}
use Rattle.ol_derivations.proofs.printing.put_abstractions.Given as goal

abbrev pub invariant-loop-k : goal.invariant-loop-k
invariant-loop-k l = (l.text.items ≡ l.initial.text.items ++ opened l.initial.binders l.t l.k)
    × (l.binders ≡ l.initial.binders)
