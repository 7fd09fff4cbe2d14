use Rattle.ol_context.specs.Asked.{os}
use Rattle.ol_context.specs.Contexts.{empty}
use Rattle.ol_context.specs.Shapes.{IsNumberOf, Extends}
use Rattle.ol_decoding.proofs.chaining.mark.Given as goal

abbrev pub invariant-loop-k : goal.invariant-loop-k
invariant-loop-k l = Extends l.initial.values l.values × IsNumberOf l.values l.mark (os l.k empty)
