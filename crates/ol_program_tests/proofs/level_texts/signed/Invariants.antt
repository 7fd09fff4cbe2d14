use Rattle.ol_context.specs.Shapes.{IsHeld, Extends}
use Rattle.ol_program_tests.proofs.level_texts.signed.Given as goal

abbrev pub invariant-loop-sign : goal.invariant-loop-sign
invariant-loop-sign l =
    (goal.iterator-loop-sign).can_next l.sign-iterator ×
    (goal.iterator-loop-sign).is_finite l.sign-iterator ×
    Extends l.initial.values l.values × IsHeld l.values l.v
