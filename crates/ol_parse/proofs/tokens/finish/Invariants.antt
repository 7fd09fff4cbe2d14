use Rattle.std.proofs.Common.{◌≡◌, List, ◌∷◌, Some}
use Rattle.ol_parse.specs.Grammar.{Named}
use Rattle.ol_parse.specs.Machine.{Frame}
use Rattle.ol_parse.specs.Flat.{built, Shows, waiting}
use Rattle.ol_parse.proofs.FlatSteps.{Going}
use Rattle.ol_parse.proofs.tokens.finish.Given as goal

abbrev pub invariant-loop-innermost : goal.invariant-loop-innermost
invariant-loop-innermost l = (u : Named) → (fs : List Frame) → Shows fs l.fn.opens.items →
    built l.fn.out.items ≡ Some (u ∷ waiting fs) → Going u fs l.opens.items l.out.items

abbrev pub decreases-loop-innermost : goal.decreases-loop-innermost
decreases-loop-innermost l = goal.left-loop-innermost l
