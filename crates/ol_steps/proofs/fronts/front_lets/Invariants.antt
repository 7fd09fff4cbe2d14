use Rattle.std.proofs.Common.{◌+◌, ◌≤◌, length}
use Rattle.ol_steps.specs.Scanned.{AreCounted, open_in}
use Rattle.ol_steps.proofs.fronts.front_lets.Given as goal

abbrev pub invariant-loop-first : goal.invariant-loop-first
invariant-loop-first l = AreCounted l.bytes l.lets l.spot l.rest × (l.lets + length l.rest ≤ length l.bytes)
    × (open_in l.spot + length l.rest ≤ length l.bytes)

abbrev pub decreases-loop-first : goal.decreases-loop-first
decreases-loop-first l = length l.rest
