use Rattle.std.proofs.Common.{◌≡◌, ℕ, ◌<◌, false, get_or}
use Rattle.ol_words.specs.Lines.{is_equals}
use Rattle.ol_words.proofs.lines.place_of_equals.Given as goal

abbrev pub invariant-loop-place : goal.invariant-loop-place
invariant-loop-place l = (k : ℕ) → k < l.place → is_equals (get_or l.text k 0) ≡ false
