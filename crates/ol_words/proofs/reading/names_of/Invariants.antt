use Rattle.std.proofs.Common.{◌≡◌, drop, length, take}
use Rattle.clap.specs.Words.{first_value, found_of}
use Rattle.ol_words.specs.Found.{names_by}
use Rattle.ol_words.specs.Views.{texts}
use Rattle.ol_words.proofs.Taken.{names_from}
use Rattle.ol_words.proofs.reading.names_of.Given as goal

abbrev pub invariant-loop-place : goal.invariant-loop-place
invariant-loop-place l = (names_from (first_value (found_of l.found)) (texts (take l.place l.names))
    (texts (drop l.place l.ids)) ≡ names_by (first_value (found_of l.found)) (texts l.ids))
    × (length l.names ≡ 2)
