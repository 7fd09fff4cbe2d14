use Rattle.std.proofs.Common.{◌≡◌, ◌+◌, ◌≤◌, [], reverse, take}
use Rattle.ol_equal.specs.Walking.{walked}
use Rattle.ol_decoding.proofs.finding.path_of.Given as goal

abbrev pub invariant-back : goal.invariant-back
invariant-back l = (walked (take l.at l.tree) (l.trees, reverse l.numbers.items) ≡ walked (take l.place l.tree) (0, []))
    × (l.trees + l.at ≤ l.place)

abbrev pub decreases-back : goal.decreases-back
decreases-back l = l.at
