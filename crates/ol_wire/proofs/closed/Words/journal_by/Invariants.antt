use Rattle.std.proofs.Common.{◌≡◌, [], ◌∷◌}
use Rattle.ol_rules.specs.Listed.{each}
use Rattle.ol_wire.specs.Closed.{entry_at}
use Rattle.ol_wire.proofs.closed.Words.journal_by.Given as goal

abbrev pub invariant-loop-k : goal.invariant-loop-k
invariant-loop-k l = l.journal ≡ each l.k (λ t. entry_at l.self t ∷ [])
