use Rattle.std.specs.Prelude.{All}
use Rattle.ol_derivations.specs.Applications.{IsInput}
use Rattle.ol_derivations.specs.StudentsSoFar.{seen_lines, texts_of}
use Rattle.ol_derivations.proofs.InputByInput.{Onward}
use Rattle.ol_derivations.proofs.inputs.inputs_of.Given as goal

abbrev pub invariant-loop-k : goal.invariant-loop-k
invariant-loop-k l = Onward (seen_lines l.lines.items) (texts_of l.kept.items) l.k × All IsInput l.kept.items
