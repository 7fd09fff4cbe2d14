use Rattle.std.proofs.Common.{arith}
use Rattle.ol_words.proofs.Digits.{seven_digits}
use Rattle.ol_words.proofs.numbers.number_in.Goals as goal

pub overflow_mul-number : goal.overflow_mul-number
overflow_mul-number c = let few = seven_digits c.loop-place.number c.loop-place.place
    c.loop-place.invariant.2 (omega arith) in omega arith

pub overflow_add-number : goal.overflow_add-number
overflow_add-number c = let few = seven_digits c.loop-place.number c.loop-place.place
    c.loop-place.invariant.2 (omega arith) in omega (arith, c.if-not-is_ascii_digit.ensures.value)
