use Rattle.std.proofs.Common.{ℕ, List, ◌++◌, take}
use Rattle.ol_net.specs.Graph.{Graph}
use Rattle.ol_view.specs.Feeding.{IsFed}
use Rattle.ol_view.proofs.feeding.Checker.feed.Given as goal

-- the bytes so far are fed
abbrev pub invariant-loop-at : goal.invariant-loop-at
invariant-loop-at l = (net : Graph) (text : List ℕ) → IsFed net text l.fn.self →
    IsFed net (text ++ take l.at l.piece) l.self
