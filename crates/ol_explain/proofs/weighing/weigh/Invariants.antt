use Rattle.std.proofs.Common.{ℕ, List}
use Rattle.ol_diamond.proofs.Weighed.{UnderWay}
use Rattle.ol_explain.proofs.weighing.weigh.Given as goal

-- the entries so far are replayed
abbrev pub invariant-loop-k : goal.invariant-loop-k
invariant-loop-k l = (waves : List ℕ) × UnderWay l.net l.journal l.weighing.net l.weighing.numbers.bases.items
    l.weighing.weights.items waves l.k
