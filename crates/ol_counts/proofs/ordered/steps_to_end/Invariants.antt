use Rattle.std.proofs.Common.{◌≡◌, ◌-◌, ◌≤◌, true}
use Rattle.std.specs.Prelude.{option_map, unwrap_or}
use Rattle.ol_term.specs.Trees.{tree_of, is_below}
use Rattle.ol_beta.specs.Beta.{IsWithin}
use Rattle.ol_counts.specs.Ordered.{LeadsWithin}
use Rattle.ol_counts.proofs.ordered.steps_to_end.Given as goal

abbrev pub invariant-loop-later : goal.invariant-loop-later
invariant-loop-later l =
    let here = unwrap_or (option_map tree_of l.later) (tree_of l.term) in
    (l.made ≤ l.most) × IsWithin here × (is_below 0 here ≡ true)
    × LeadsWithin l.order l.made (tree_of l.term) here

abbrev pub decreases-loop-later : goal.decreases-loop-later
decreases-loop-later l = l.most - l.made
