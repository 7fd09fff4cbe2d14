use Rattle.std.proofs.Common.{◌+◌, ◌≤◌, length}
use Rattle.ol_places.specs.Scans.{scopes_of, IsScan}
use Rattle.ol_places.proofs.Lefts.{AreLeft}
use Rattle.ol_places.proofs.freeing.free_lines.Given as goal

abbrev pub invariant-loop-first : goal.invariant-loop-first
invariant-loop-first l = AreLeft l.bytes l.text.items l.place l.scan.mode (scopes_of l.scan.scopes.items) l.rest
    × IsScan l.scan × (l.place.line + length l.rest ≤ length l.bytes + 1)
    × (l.place.column + length l.rest ≤ length l.bytes + 1)

abbrev pub decreases-loop-first : goal.decreases-loop-first
decreases-loop-first l = length l.rest
