use Rattle.std.proofs.Common.{◌≡◌, [], ◌∷◌}
use Rattle.ol_rules.specs.Listed.{each}
use Rattle.ol_wire.specs.Closed.{pair_at, filled_before}
use Rattle.ol_wire.proofs.closed.Words.blocks.Given as goal

abbrev pub invariant-loop-k : goal.invariant-loop-k
invariant-loop-k l = (l.pairs.items ≡ each l.k (λ t. pair_at l.self.plan.parts l.self.words t ∷ []))
    × (l.cells.items ≡ filled_before l.self l.k)
