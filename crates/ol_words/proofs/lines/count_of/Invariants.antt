use Rattle.std.proofs.Common.{◌≡◌, ◌+◌, ◌≤◌, drop, length}
use Rattle.ol_words.specs.Jobs.{values_of}
use Rattle.ol_words.proofs.SoFar.{seen}
use Rattle.ol_words.proofs.lines.count_of.Given as goal

abbrev pub invariant-loop-place : goal.invariant-loop-place
invariant-loop-place l = (l.count + length
    (values_of l.option (seen (drop l.place l.options))) ≡ length
    (values_of l.option (seen l.options))) × (l.count ≤ l.place)
