use Rattle.ol_context.specs.Contexts.{empty}
use Rattle.ol_context.specs.Asked.{os}
use Rattle.ol_context.specs.Shapes.{Extends, IsNumberOf}
use Rattle.ol_decoding.proofs.questioning.mark_of.Given as goal

abbrev pub invariant-loop-k : goal.invariant-loop-k
invariant-loop-k l = IsNumberOf l.values l.mark (os l.k empty) × Extends l.initial.values l.values
