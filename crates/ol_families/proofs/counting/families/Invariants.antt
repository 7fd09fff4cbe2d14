use Rattle.std.proofs.Common.{◌≡◌, ◌-◌, ◌≤◌, true}
use Rattle.ol_term.specs.Trees.{tree_of, is_below}
use Rattle.ol_beta.specs.Beta.{IsWithin}
use Rattle.ol_families.specs.Held.{held_of}
use Rattle.ol_families.specs.Tables.{degrees_of}
use Rattle.ol_families.proofs.Onward.{Follows}
use Rattle.ol_families.proofs.counting.families.Given as goal

abbrev pub invariant-steps : goal.invariant-steps
invariant-steps l =
    (l.made ≤ l.most) × IsWithin (tree_of l.here) × (is_below 0 (tree_of l.here) ≡ true)
    × Follows (tree_of l.term) l.made (tree_of l.here) (held_of l.labelling.term)
    (degrees_of l.labelling.degrees) l.labelling.written

abbrev pub decreases-steps : goal.decreases-steps
decreases-steps l = l.most - l.made
