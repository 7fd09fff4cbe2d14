use Rattle.ol_term.specs.Trees.{tree_of, term_size}
use Rattle.ol_strategies.proofs.Descents.{IsDescended}
use Rattle.ol_strategies.proofs.spine.spine_redex.Given as goal

abbrev pub invariant-parts : goal.invariant-parts
invariant-parts l = IsDescended l.below (tree_of l.t) (tree_of l.part) l.moves.items

abbrev pub decreases-parts : goal.decreases-parts
decreases-parts l = term_size (tree_of l.part)
