use Rattle.std.proofs.Common.{◌≡◌, All, length, map}
use Rattle.crossbeam_deque.specs.Handles.{stealer_deque}
use Rattle.ol_pool.specs.Deques.{opened}
use Rattle.ol_pool.specs.Owned.{OwnState}
use Rattle.ol_pool.proofs.opening.open_all.Given as goal

abbrev pub invariant-loop : goal.invariant-loop
invariant-loop l =
    All (λ (own : OwnState). own.log ≡ opened l.bound) l.owns.items
    × (map (λ (own : OwnState). own.deque) l.owns.items ≡ map (λ t. stealer_deque t) l.thieves.items)
    × (length l.thieves.items ≡ l.counter)
