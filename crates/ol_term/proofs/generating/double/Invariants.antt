use Rattle.std.proofs.Common.{◌≡◌}
use Rattle.ol_term.specs.Generated.{doubled}
use Rattle.ol_term.proofs.generating.double.Given as goal

-- doubled so often
abbrev pub invariant-loop : goal.invariant-loop
invariant-loop l = l.text.items ≡ doubled l.counter
