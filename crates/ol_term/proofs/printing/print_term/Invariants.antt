use Rattle.std.proofs.Common.{◌≡◌, ◌++◌, length}
use Rattle.ol_term.specs.Trees.{tree_of}
use Rattle.ol_term.specs.Texts.{text_of_term}
use Rattle.ol_term.specs.Printing.{items_text, AreItems, weights}
use Rattle.ol_term.proofs.printing.print_term.Given as goal

abbrev pub invariant-items : goal.invariant-items
invariant-items l = (l.text.items ++ items_text l.names l.todo.items ≡ text_of_term l.names
    (tree_of l.term)) × AreItems (length l.names) l.todo.items × (l.binders ≡ l.names)

abbrev pub decreases-items : goal.decreases-items
decreases-items l = weights l.todo.items
