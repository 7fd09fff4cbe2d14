use Rattle.std.proofs.Common.{◌≡◌, drop, length, take}
use Rattle.clap.specs.Words.{first_value, found_of}
use Rattle.ol_words.specs.Jobs.{numbers}
use Rattle.ol_words.specs.Found.{number_by}
use Rattle.ol_words.proofs.Taken.{numbers_from}
use Rattle.ol_words.proofs.reading.numbers_of.Given as goal

abbrev pub invariant-loop-place : goal.invariant-loop-place
invariant-loop-place l = (numbers_from (number_by (first_value (found_of l.found))) (take l.place l.numbers)
    (drop l.place l.settings) ≡ numbers (number_by (first_value (found_of l.found))) l.settings)
    × (length l.numbers ≡ 5)
