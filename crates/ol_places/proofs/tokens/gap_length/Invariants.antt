use Rattle.std.proofs.Common.{◌≡◌, ◌+◌, false, drop}
use Rattle.ol_places.specs.Gaps.{gap_length}
use Rattle.ol_places.proofs.tokens.gap_length.Given as goal

abbrev pub invariant-loop-at : goal.invariant-loop-at
invariant-loop-at l = l.at + gap_length l.comment (drop l.at l.rest) ≡ gap_length false l.rest
