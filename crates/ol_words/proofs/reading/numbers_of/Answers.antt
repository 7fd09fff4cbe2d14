use Rattle.std.proofs.Common.{◌∙◌, arith, sym}
use Rattle.std.proofs.lemmas.List.{length-set}
use Rattle.clap.specs.Words.{first_value, found_of}
use Rattle.ol_words.specs.Found.{number_by}
use Rattle.ol_words.proofs.Taken.{number_taken}
use Rattle.ol_words.proofs.reading.numbers_of.Goals as goal

pub loop-place-preserved : goal.loop-place-preserved
loop-place-preserved c = (
  number_taken (number_by (first_value (found_of c.args.found.now))) c.loop-place.numbers c.args.settings.now
      c.loop-place.place c.in_ok-numbers.field-0 _ c.loop-place-test.true (omega arith)
      (sym c.number_of.ensures ∙ c.in_ok-numbers.was) ∙ c.loop-place.invariant.0,
  length-set c.loop-place.numbers c.loop-place.place c.in_ok-numbers.field-0 ∙ c.loop-place.invariant.1,
)
