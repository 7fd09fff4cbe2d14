use Rattle.std.proofs.Common.{◌≡◌, length}
use Rattle.ol_places.specs.Scans.{unwound, scopes_of, IsScan}
use Rattle.ol_places.proofs.scanning.unwind.Given as goal

abbrev pub invariant-loop-scope : goal.invariant-loop-scope
invariant-loop-scope l = (unwound (scopes_of l.scan.scopes.items) ≡ unwound (scopes_of l.fn.scan.scopes.items))
    × IsScan l.scan × (l.scan.mode ≡ l.fn.scan.mode)

abbrev pub decreases-loop-scope : goal.decreases-loop-scope
decreases-loop-scope l = length l.scan.scopes.items
