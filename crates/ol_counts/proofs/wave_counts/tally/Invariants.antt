use Rattle.std.proofs.Common.{◌≡◌, ◌+◌, length, take}
use Rattle.ol_counts.specs.CountsOfWaves.{AreTallied}
use Rattle.ol_counts.proofs.wave_counts.tally.Given as goal

-- the entries so far are counted
abbrev pub invariant-loop-k : goal.invariant-loop-k
invariant-loop-k l = (length l.tallies.items ≡ l.fn.last + 1)
    × AreTallied l.tallies.items (take l.k l.journal) (take l.k l.waves)
