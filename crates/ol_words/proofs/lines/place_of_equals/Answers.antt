use Rattle.std.proofs.Common.{sym, arith}
use Rattle.std.proofs.lemmas.Bool.Decides.{nat_tests}
use Rattle.std.proofs.lemmas.List.Sums.{position_or_len_is}
use Rattle.ol_words.specs.Lines.{is_equals}
use Rattle.ol_words.proofs.lines.place_of_equals.Goals as goal

pub returns-then-text-place-eq61 : goal.returns-then-text-place-eq61
returns-then-text-place-eq61 c = sym
    (position_or_len_is is_equals c.args.text.now c.loop-place.place 0
    (omega arith) c.loop-place.invariant (λ lt. grind (arith, nat_tests)))

pub returns : goal.returns
returns c = sym (position_or_len_is is_equals c.args.text.now _ 0 (omega arith)
    (λ k lt. c.loop-place.invariant k (omega arith)) (λ lt. absurd (omega arith)))
