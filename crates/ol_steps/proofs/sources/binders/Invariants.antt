use Rattle.std.proofs.Common.{◌≡◌, ◌≤◌, [], drop, None}
use Rattle.ol_steps.specs.Sights.{at}
use Rattle.ol_steps.specs.Looks.{gap, sees}
use Rattle.ol_steps.specs.SeenTokens.{from_of, look_of}
use Rattle.ol_steps.proofs.sources.binders.Given as goal

abbrev pub invariant-loop-k : goal.invariant-loop-k
invariant-loop-k l = (from_of l.place ≤ l.k)
    × (sees (look_of l.bytes l.k l.place l.reading l.rounds.items) (drop l.k l.bytes) ≡ sees (gap (at None [])) l.bytes)
