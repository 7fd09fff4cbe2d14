use Rattle.std.proofs.Common.{◌≡◌, drop, reverse}
use Rattle.std.specs.List.{position_from}
use Rattle.std.specs.Str.{bytes_eq}
use Rattle.ol_parse.specs.Resolving.{texts}
use Rattle.ol_parse.proofs.numbers.binder.Given as goal

abbrev pub invariant-loop-i : goal.invariant-loop-i
invariant-loop-i l = position_from (λ y. bytes_eq l.name y) l.i
    (texts (drop l.i (reverse l.binders))) ≡ position_from (λ y. bytes_eq l.name y) 0 (texts (reverse l.binders))
