use Rattle.std.proofs.Common.{◌≡◌}
use Rattle.ol_reduce.specs.Found.{IsPartly, AreListedTo}
use Rattle.ol_reduce.proofs.freezing.link_cells.Given as goal

abbrev pub invariant-loop-k : goal.invariant-loop-k
invariant-loop-k l = (l.draft.free ≡ l.initial.draft.free)
    × IsPartly l.words l.live.places.items l.draft.kinds.items l.draft.partners.items
    × AreListedTo l.words l.live.places.items l.draft.partners.items l.cells.items l.k
