use Rattle.std.proofs.Common.{◌≡◌, drop}
use Rattle.std.specs.List.{list_any}
use Rattle.std.specs.Str.{bytes_eq}
use Rattle.ol_places.specs.Scans.{names_of}
use Rattle.ol_places.proofs.scanning.is_unbound.Given as goal

abbrev pub invariant-loop-k : goal.invariant-loop-k
invariant-loop-k l = list_any (λ y. bytes_eq l.name y) (names_of (drop l.k l.bound))
    ≡ list_any (λ y. bytes_eq l.name y) (names_of l.bound)
