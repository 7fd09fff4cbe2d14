use Rattle.std.proofs.Common.{◌-◌, length}
use Rattle.ol_term.specs.Trees.{tree_of}
use Rattle.ol_steps.specs.Trees.{binders_in}
use Rattle.ol_steps.specs.EarlierTerms.{glossary_of}
use Rattle.ol_steps.proofs.Walks.{IsWalked}
use Rattle.ol_steps.proofs.stepping.walk.Given as goal

abbrev pub invariant-loop-here : goal.invariant-loop-here
invariant-loop-here l =
    IsWalked l.view.how (glossary_of l.view.names l.view.lets) l.count l.most (tree_of l.fn.term) (binders_in l.fn.binders)
    l.kept.items (tree_of l.here.term) (binders_in l.here.binders) l.here.seen l.text.items

abbrev pub decreases-loop-here : goal.decreases-loop-here
decreases-loop-here l = l.most - length l.kept.items
