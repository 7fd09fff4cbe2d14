use Rattle.std.proofs.Common.{◌==◌, ◌+◌, ◌/◌, ◌%◌, ◌^◌, [], ◌∷◌, if◌then◌else◌}
use Rattle.ol_rules.specs.Listed.{each}
use Rattle.ol_reduce.specs.Offered.{HasOffered}
use Rattle.ol_reduce.proofs.working.offer_published.Given as goal

abbrev pub invariant-loop-bit : goal.invariant-loop-bit
invariant-loop-bit l = HasOffered l.fn.hand
    (each l.bit (λ j. if l.fn.mask / 2 ^ j % 2 == 1 then (l.fn.first_cell + j) ∷ [] else [])) l.hand
