use Rattle.std.proofs.Common.{◌≡◌, length}
use Rattle.ol_steps.specs.Trees.{binders_in}
use Rattle.ol_steps.specs.Sights.{finish}
use Rattle.ol_steps.specs.SeenTokens.{frames_in}
use Rattle.ol_steps.proofs.tokens.finish.Given as goal

abbrev pub invariant-ends : goal.invariant-ends
invariant-ends l = finish (binders_in l.tree) (frames_in l.rounds.items)
    ≡ finish (binders_in l.fn.whole) (frames_in l.fn.rounds.items)

abbrev pub decreases-ends : goal.decreases-ends
decreases-ends l = length l.rounds.items
