use Rattle.ol_term.specs.Trees.{tree_of}
use Rattle.ol_steps.proofs.Same.{decided}
use Rattle.ol_steps.proofs.folding.is_same.Goals as goal

pub returns : goal.returns
returns c = decided _ (tree_of c.args.term.now) (tree_of c.args.other.now) c.alpha_eq.ensures
