use Rattle.std.proofs.Common.{◌≡◌, take}
use Rattle.ol_counts.specs.Waves.{last_wave}
use Rattle.ol_counts.proofs.wave_counts.last_wave.Given as goal

-- the greatest so far
abbrev pub invariant-loop-k : goal.invariant-loop-k
invariant-loop-k l = l.last ≡ last_wave (take l.k l.waves)
