use Rattle.std.proofs.Common.{◌≤◌, length}
use Rattle.ol_places.proofs.Innermost.{AreLeft}
use Rattle.ol_places.proofs.lets.last_let.Given as goal

abbrev pub invariant-loop-token : goal.invariant-loop-token
invariant-loop-token l = AreLeft l.front l.lets.items l.rest × (length l.rest ≤ length l.front)

abbrev pub decreases-loop-token : goal.decreases-loop-token
decreases-loop-token l = length l.rest
