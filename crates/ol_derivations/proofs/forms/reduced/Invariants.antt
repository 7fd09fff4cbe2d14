use Rattle.std.proofs.Common.{◌≡◌, true}
use Rattle.ol_term.specs.Trees.{tree_of, is_below}
use Rattle.ol_beta.specs.Beta.{IsWithin}
use Rattle.ol_derivations.proofs.NormalForms.{Agree}
use Rattle.ol_derivations.proofs.forms.reduced.Given as goal

abbrev pub invariant-loop-here : goal.invariant-loop-here
invariant-loop-here l = Agree l.fn.most (tree_of l.fn.t) l.left (tree_of l.here) × IsWithin (tree_of l.here)
    × (is_below 0 (tree_of l.here) ≡ true)

abbrev pub decreases-loop-here : goal.decreases-loop-here
decreases-loop-here l = l.left
