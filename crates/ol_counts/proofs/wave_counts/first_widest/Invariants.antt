use Rattle.ol_counts.specs.CountsOfWaves.{IsWidestBelow}
use Rattle.ol_counts.proofs.wave_counts.first_widest.Given as goal

-- the first of the widest so far
abbrev pub invariant-loop-k : goal.invariant-loop-k
invariant-loop-k l = IsWidestBelow l.tallies l.k l.pairs l.wave
