use Rattle.std.proofs.Common.{◌≡◌, ◌+◌, drop}
use Rattle.ol_places.specs.Gaps.{word_length}
use Rattle.ol_places.proofs.tokens.word_length.Given as goal

abbrev pub invariant-loop-at : goal.invariant-loop-at
invariant-loop-at l = l.at + word_length (drop l.at l.rest) ≡ word_length l.rest
