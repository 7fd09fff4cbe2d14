use Rattle.std.proofs.Common.{◌≡◌, ◌<◌, ◌^◌, drop}
use Rattle.std.specs.Str.{all_ascii_digits}
use Rattle.std.specs.Str.Parse.{digits_value, digits_value_after}
use Rattle.ol_words.proofs.numbers.number_in.Given as goal

abbrev pub invariant-loop-place : goal.invariant-loop-place
invariant-loop-place l = (all_ascii_digits (drop l.place l.text) ≡ all_ascii_digits l.text)
    × (digits_value_after 10 l.number (drop l.place l.text) ≡ digits_value 10 l.text) × (l.number < 10 ^ l.place)
