use Rattle.std.proofs.Common.{◌≡◌, ◌+◌, ◌≤◌, drop}
use Rattle.ol_places.specs.Frees.{behind_all}
use Rattle.ol_places.proofs.columns.Place.behind_all.Given as goal

abbrev pub invariant-loop-k : goal.invariant-loop-k
invariant-loop-k l = (behind_all l.place (drop l.k l.bytes) ≡ behind_all l.fn.self l.bytes)
    × (l.place.line ≤ l.fn.self.line + l.k) × (l.place.column ≤ l.fn.self.column + l.k)
