use Rattle.ol_context.specs.Shapes.{IsHeld, Extends}
use Rattle.ol_program_tests.proofs.values.tower.Given as goal

abbrev pub invariant-loop : goal.invariant-loop
invariant-loop l = (Extends l.initial.values l.values) × IsHeld l.values l.top
