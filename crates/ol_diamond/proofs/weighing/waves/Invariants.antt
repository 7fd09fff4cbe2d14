use Rattle.ol_diamond.proofs.Weighed.{UnderWay}
use Rattle.ol_diamond.proofs.weighing.waves.Given as goal

-- the entries so far are replayed
abbrev pub invariant-loop-k : goal.invariant-loop-k
invariant-loop-k l = UnderWay l.net l.journal l.weighing.net l.weighing.numbers.bases.items
    l.weighing.weights.items l.waves.items l.k
