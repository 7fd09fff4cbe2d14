use Rattle.std.proofs.Common.{◌≡◌}
use Rattle.ol_pool.specs.Owned.{lends_one}
use Rattle.ol_pool.proofs.Dealing.{done, firsts, reach_to}
use Rattle.ol_pool.proofs.opening.lend_all.Given as goal

abbrev pub invariant-loop-at : goal.invariant-loop-at
invariant-loop-at l =
    (l.owns.items ≡ done lends_one l.at l.fn.owns.items)
    × (l.made.items ≡ firsts reach_to l.at l.fn.owns.items)
