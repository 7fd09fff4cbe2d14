use Rattle.std.proofs.Common.{◌+◌}
use Rattle.ol_term.specs.Trees.{tree_of, term_size}
use Rattle.ol_strategies.proofs.Remaining.{IsSearched, sizes}
use Rattle.ol_strategies.proofs.strict.strict_redex.Given as goal

abbrev pub invariant-parts : goal.invariant-parts
invariant-parts l = IsSearched l.below (tree_of l.t) (tree_of l.part) l.moves.items l.todo.items

abbrev pub decreases-parts : goal.decreases-parts
decreases-parts l = term_size (tree_of l.part) + sizes l.todo.items
