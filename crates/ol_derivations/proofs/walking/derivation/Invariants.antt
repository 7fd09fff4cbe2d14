use Rattle.std.proofs.Common.{map}
use Rattle.ol_derivations.specs.StepsFound.{terms_of}
use Rattle.ol_derivations.proofs.LineByLine.{Onward}
use Rattle.ol_derivations.proofs.walking.derivation.Given as goal

abbrev pub invariant-loop-k : goal.invariant-loop-k
invariant-loop-k l = Onward (map (λ x. x.now) l.lines.items) l.k (terms_of l.sofar) l.text.items l.fine
