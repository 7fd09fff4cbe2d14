use Rattle.std.proofs.Common.{◌≡◌, ◌+◌, ◌-◌, ◌*◌, ◌<◌, ◌≤◌, length, drop}
use Rattle.ol_decoding.specs.AddedLines.{skipped}
use Rattle.ol_decoding.proofs.finding.skip.Given as goal

abbrev pub invariant-skip : goal.invariant-skip
invariant-skip l = (l.at + skipped (drop l.at l.tree) l.left ≡ l.from + skipped (drop l.from l.tree) l.trees)
    × (l.at ≤ length l.tree) × (l.from ≤ l.at) × (l.left < 4294967296 * (1 + l.at - l.from))

abbrev pub decreases-skip : goal.decreases-skip
decreases-skip l = length l.tree - l.at
